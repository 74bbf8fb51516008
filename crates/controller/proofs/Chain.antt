-- The chain of frames, and what a change of memory leaves of it.
use Rattle.std.proofs.Common.{◌≡◌, ℕ, suc, ◌+◌, ◌<◌, ◌≤◌, ◌⊎◌, List, [], ◌∷◌, length, get_or, take, set, ℤ, pos, refl, ◌∙◌, inl, inr, arith, length-set}
use Rattle.std.proofs.lemmas.List.{get_or-set_other, take-set-le}
use Rattle.program.specs.declared.unit.Unit.{Unit as UnitRecord}
use Rattle.instructions.specs.declared.layout.Layout.{Layout}
use Rattle.plan.specs.Programs.{Program, Listed}
use Rattle.plan.specs.Lawful.{Plan, Has as Planned}

-- where a program runs: its sections, the cells of its memory, and the program itself
pub record Box : Type 0 where
  pub layout : Layout
  pub size : ℕ
  pub program : Program

-- a call under way: the unit and its number, the cell of its return address, that address, the caller's frame, body
-- and depth after the return
pub record Frame : Type 0 where
  pub index : ℕ
  pub unit : UnitRecord
  pub cell : ℕ
  pub back : ℕ
  pub link : ℕ
  pub caller : ℕ
  pub depth : ℕ

-- the first cell above the arguments and result cells of the newest call
abbrev pub lim : Box → List Frame → ℕ
lim B [] = B.size
lim B (g ∷ F) = g.cell + 1 + g.unit.arguments + g.unit.results

pub record Waits (B : Box) (p : Plan) (m : List ℤ) (g : Frame) : Type 0 where
  pub listed : Listed B.program.units g.index g.unit
  pub returned : Planned p g.back g.caller g.depth
  pub level : g.cell + 1 + g.unit.arguments + g.depth ≡ g.link + 1
  pub fits : g.unit.results ≤ g.depth
  pub address : get_or m g.cell (pos 0) ≡ pos g.back

abbrev pub Chain : Box → Plan → List ℤ → List Frame → ℕ → ℕ → Type 0
Chain B p m [] f b = (f + 1 ≡ B.size) × (b ≡ 0)
Chain B p m (g ∷ F) f b = (f + 2 ≡ g.cell) × (b ≡ suc g.index) × (get_or m (f + 1) (pos 0) ≡ pos g.link) × Waits B p m g × Chain B p m F g.link g.caller

-- a change of memory that the frames do not see
pub record Calm (B : Box) (F : List Frame) (f : ℕ) (m n : List ℤ) : Type 0 where
  pub len : length n ≡ length m
  pub code : take B.layout.code n ≡ take B.layout.code m
  pub kept : (i : ℕ) → f < i → (i < f + 3) ⊎ (lim B F ≤ i) → get_or n i (pos 0) ≡ get_or m i (pos 0)

pub calm_same : (B : Box) (F : List Frame) (f : ℕ) (m : List ℤ) → Calm B F f m m
calm_same B F f m = record { len = refl; code = refl; kept = λ i h k. refl }

pub calm_set : (B : Box) (F : List Frame) (f : ℕ) (m : List ℤ) (j : ℕ) (v : ℤ) → B.layout.code ≤ j → (j ≤ f) ⊎ ((f + 3 ≤ j) × (j < lim B F)) → Calm B F f m (set m j v)
calm_set B F f m j v c w = record {
  len = length-set m j v;
  code = take-set-le B.layout.code m j v c;
  kept = λ i h k. get_or-set_other m j i v (pos 0) (omega arith);
}

pub calm_trans : (B : Box) (F : List Frame) (f : ℕ) (m n o : List ℤ) → Calm B F f m n → Calm B F f n o → Calm B F f m o
calm_trans B F f m n o a b = record { len = b.len ∙ a.len; code = b.code ∙ a.code; kept = λ i h k. b.kept i h k ∙ a.kept i h k }

pub chain_top : (B : Box) (p : Plan) (m : List ℤ) (F : List Frame) (f b : ℕ) → Chain B p m F f b → f + 1 ≤ B.size
chain_top B p m [] f b c = omega arith
chain_top B p m (g ∷ F) f b c = let r : g.link + 1 ≤ B.size = chain_top B p m F g.link g.caller c.4 in omega arith

pub chain_lim : (B : Box) (p : Plan) (m : List ℤ) (F : List Frame) (f b : ℕ) → Chain B p m F f b → f < lim B F
chain_lim B p m [] f b c = omega arith
chain_lim B p m (g ∷ F) f b c = omega arith

pub chain_lim_top : (B : Box) (p : Plan) (m : List ℤ) (F : List Frame) (f b : ℕ) → Chain B p m F f b → lim B F ≤ B.size
chain_lim_top B p m [] f b c = omega arith
chain_lim_top B p m (g ∷ F) f b c = let r : g.link + 1 ≤ B.size = chain_top B p m F g.link g.caller c.4 in omega arith

pub waits_keep : (B : Box) (p : Plan) (m n : List ℤ) (g : Frame) → Waits B p m g → get_or n g.cell (pos 0) ≡ get_or m g.cell (pos 0) → Waits B p n g
waits_keep B p m n g w e = record { listed = w.listed; returned = w.returned; level = w.level; fits = w.fits; address = e ∙ w.address }

pub chain_keep : (B : Box) (p : Plan) (m n : List ℤ) (F : List Frame) (f b : ℕ) → Chain B p m F f b → ((i : ℕ) → f < i → (i < f + 3) ⊎ (lim B F ≤ i) → get_or n i (pos 0) ≡ get_or m i (pos 0)) → Chain B p n F f b
chain_keep B p m n [] f b c k = c
chain_keep B p m n (g ∷ F) f b c k = (
  c.0,
  c.1,
  k (f + 1) (omega arith) (inl (omega arith)) ∙ c.2,
  waits_keep B p m n g c.3 (k g.cell (omega arith) (inl (omega arith))),
  chain_keep B p m n F g.link g.caller c.4 (λ i h o. k i (omega arith) (inr (omega arith))),
)

-- all that lies above f
pub chain_above : (B : Box) (p : Plan) (m n : List ℤ) (F : List Frame) (f b : ℕ) → Chain B p m F f b → ((i : ℕ) → f < i → get_or n i (pos 0) ≡ get_or m i (pos 0)) → Chain B p n F f b
chain_above B p m n F f b c k = chain_keep B p m n F f b c (λ i h o. k i h)
