-- The line of a number, as an item of the list of lines.
use Rattle.std.proofs.Common.{◌≡◌, ℕ, zero, suc, ◌-◌, ◌≤◌, List, Some, None, Option, sym, refl, arith, MatchOption, slice_get}
use Rattle.syntax.specs.Lines.{line_at}
use Rattle.std.specs.Option.{option_map}

-- what a lookup by reference gives, case by case
pub looked_up : {A B : Type 0} (view : A → B) (r : Option A) (o : Option B) → option_map view r ≡ o → MatchOption r (o ≡ None) (λ x. o ≡ Some (view x))
looked_up view None o e = sym e
looked_up view (Some x) o e = sym e

pub line_get : (n : ℕ) (ls : List (List ℕ)) → 1 ≤ n → slice_get ls (n - 1) ≡ line_at n ls
line_get zero ls h = absurd (omega arith)
line_get (suc n) ls h = let e : suc n - 1 ≡ n = omega arith in rw e refl
