-- A step from a place of the plan.
use Rattle.std.proofs.Common.{◌≡◌, ℕ, ◌+◌, ◌-◌, ◌≤◌, Bool, true, false, cond, not, eqb, List, [], ◌∷◌, length, get_or, set, ℤ, pos, negsuc, ◌+ℤ◌, ◌-ℤ◌, Some, Ok, Result, sym, refl, ap, ◌∙◌, subst, inl, inr, arith}
use Rattle.std.proofs.lemmas.Int.{ints}
use Rattle.std.proofs.lemmas.List.{get_or-set_same}
use Rattle.std.specs.List.{AllByRecursion}
use Rattle.std.specs.Fmt.{signed_decimal}
use Rattle.program.specs.declared.fault.MachineCause.{MachineCause}
use Rattle.program.specs.declared.fault.MachineCause.TheVariants.{OutsideStack, HeapLimit}
use Rattle.program.specs.declared.unit.Unit.{Unit as UnitRecord}
use Rattle.arithmetic.specs.Cells.{binary, unary, is_zero}
use Rattle.arithmetic.specs.declared.operation.Binary.{Binary}
use Rattle.arithmetic.specs.declared.operation.Binary.TheVariants as B2
use Rattle.arithmetic.specs.declared.operation.Unary.{Unary}
use Rattle.arithmetic.specs.declared.operation.Unary.TheVariants as U1
use Rattle.isa.specs.declared.opcode.Opcode.{Opcode}
use Rattle.isa.specs.declared.opcode.Opcode.TheVariants as O
use Rattle.isa.specs.Table.{size, number}
use Rattle.instructions.specs.Core.{Core, Act, goes, takes, shows, core, cell, top, under}
use Rattle.instructions.specs.Exec.{exec}
use Rattle.instructions.specs.Moves.{at_pc, at_sp, at_fp, at_limit, put, popped, pushed}
use Rattle.instructions.specs.Stack.{joins, turns, pushes, pops, fetches, assigns, spelled}
use Rattle.instructions.specs.Tests.{uses, fine, placed, referred, refers, lettered, character, in_use}
use Rattle.machine.specs.Step.{performed}
use Rattle.plan.specs.declared.successor.Successor.{Successor}
use Rattle.plan.specs.Kinds as K
use Rattle.plan.specs.Rules as R
use Rattle.plan.specs.Rules.{Onto, RuleOf, InFrame, to}
use Rattle.plan.specs.Lawful.{Plan, Holds, Lawful, Has as Planned}
use Rattle.controller.specs.Law.{doing, is_op}
use Rattle.controller.proofs.Chain.{Box, Frame, lim, Calm, calm_same, calm_set, calm_trans, chain_top, chain_lim, chain_lim_top, chain_keep}
use Rattle.controller.proofs.Inv.{Ground, Placed, Enters, Closes, Inv, calling, closes, same, After, Good, Late, uses_good, room_good, fine_good, either, at_place, act_good}
use Rattle.controller.proofs.Inv as I
use Rattle.controller.proofs.Late.{binary_late, unary_late, placed_late, lettered_late, referred_late, placed_ok, placed_at, referred_ok}
use Rattle.plan.proofs.Listing.{listed_same}
use Rattle.controller.proofs.Reach.{Reached, reach}

-- an instruction that is neither CALL nor RET
abbrev Quiet : Opcode → Type 0
Quiet op = (eqb (number op) (number O.Call) ≡ false) × (eqb (number op) (number O.Ret) ≡ false)

holds_is : (p : Plan) (a b d : ℕ) → Holds p b (to (pos a) d) → Planned p a b d
holds_is p a b d h = let q = h.1 in let e : h.0 ≡ a = cc in rw e at h.2

-- registers with another pc and sp
abbrev moving : ℤ → ℕ → Core → List ℤ → Core
moving a k x m = core (record { pc = a; sp = k; fp = x.reg.fp; hp = x.reg.hp; limit = x.reg.limit }) m

module _ (B : Box) (p : Plan) (law : Lawful B.program p) (F : List Frame) (x : Core) (gr : Ground B x) (s : Placed B p F x) where
  -- the cells of the depth are there
  deep : (u : ℕ) → u ≤ s.h → x.reg.sp + u ≤ length x.mem
  deep u l = let t : s.f + 1 ≤ B.size = chain_top B p x.mem F s.f s.b s.chain in omega arith

  module _ (op : Opcode) (k : ℤ) (at-pc : doing B.layout x ≡ Some (record { instruction = record { op = op; argument = k }; next = pos (s.a + size op) })) (quiet : Quiet op) where
    -- on in the same frames
    stays : (y : Core) → Inv B p F y → y.reg.limit ≤ y.reg.sp → B.layout.floor ≤ y.reg.limit → Calm B F s.f x.mem y.mem → After B p F x y
    stays y v l w c = record {
      frames = F;
      inv = v;
      ground = record { len = c.len ∙ gr.len; code = c.code ∙ gr.code; ordered = gr.ordered; low = l; above = w };
      kept = λ i u. c.kept i (omega (arith, chain_lim B p x.mem F s.f s.b s.chain)) (inr u);
      moves = same (ap (is_op O.Call) at-pc ∙ ap (λ t. cond t 1 0) quiet.0) (ap (is_op O.Ret) at-pc ∙ ap (λ t. cond t 1 0) quiet.1) refl;
    }

    -- to another place of the body
    moved : (y : Core) (a h : ℕ) → y.reg.pc ≡ pos a → y.reg.fp ≡ x.reg.fp → y.reg.sp + h ≡ s.f + 1 → Planned p a s.b h → y.reg.limit ≤ y.reg.sp → B.layout.floor ≤ y.reg.limit → Calm B F s.f x.mem y.mem → After B p F x y
    moved y a h e q d t l w c = stays y (I.placed (record { a = a; f = s.f; h = h; b = s.b; pc_is = e; fp_is = q ∙ s.fp_is; sp_is = d; planned = t; chain = chain_keep B p x.mem y.mem F s.f s.b s.chain c.kept })) l w c

    -- the stack moves, and memory changes where the frames do not see it
    shifted : (n h : ℕ) (m : List ℤ) → n + h ≡ s.f + 1 → x.reg.limit ≤ n → Planned p (s.a + size op) s.b h → Calm B F s.f x.mem m → After B p F x (moving (pos (s.a + size op)) n x m)
    shifted n h m q t r c = moved (moving (pos (s.a + size op)) n x m) (s.a + size op) h refl refl q r t gr.above c

    -- a cell of the body is written
    wrote : (n j : ℕ) (v : ℤ) (h : ℕ) → n + h ≡ s.f + 1 → x.reg.limit ≤ n → x.reg.limit ≤ j → j ≤ s.f → Planned p (s.a + size op) s.b h → After B p F x (moving (pos (s.a + size op)) n x (set x.mem j v))
    wrote n j v h q t l u r = shifted n h (set x.mem j v) q t r (calm_set B F s.f x.mem j v (omega arith) (inl u))

    -- the top u cells go
    dropped : (u h : ℕ) → h + u ≡ s.h → Planned p (s.a + size op) s.b h → After B p F x (moving (pos (s.a + size op)) (x.reg.sp + u) x x.mem)
    dropped u h q r = shifted (x.reg.sp + u) h x.mem (omega arith) (omega arith) r (calm_same B F s.f x.mem)

    -- to a target
    jumped : (t : ℤ) (u h : ℕ) → h + u ≡ s.h → Holds p s.b (to t h) → After B p F x (moving t (x.reg.sp + u) x x.mem)
    jumped t u h q g = moved (moving t (x.reg.sp + u) x x.mem) g.0 h g.1 refl (omega arith) g.2 (omega arith) gr.above (calm_same B F s.f x.mem)

    abbrev past : Core
    past = at_pc (pos (s.a + size op)) x

    joins_good : (f : ℤ → ℤ → Result ℤ MachineCause) → ((a b : ℤ) → Late (f a b)) → 2 ≤ s.h → Planned p (s.a + size op) s.b (s.h - 2 + 1) → Good B p F x (joins f past)
    joins_good f late l r =
        let act : ℤ → Act = λ v c. goes (popped 1 (put (c.reg.sp + 1) v c)) in
        uses_good B p F x 2 (λ c. fine (f (under c) (top c)) act c) past (deep 2 l) (fine_good B p F x (f (under x) (top x)) act past (late (under x) (top x)) (λ v _. wrote (x.reg.sp + 1) (x.reg.sp + 1) v (s.h - 2 + 1) (omega arith) (omega arith) (omega arith) (omega arith) r))

    turns_good : (f : ℤ → Result ℤ MachineCause) → ((a : ℤ) → Late (f a)) → 1 ≤ s.h → Planned p (s.a + size op) s.b (s.h - 1 + 1) → Good B p F x (turns f past)
    turns_good f late l r =
        let act : ℤ → Act = λ v c. goes (put c.reg.sp v c) in
        uses_good B p F x 1 (λ c. fine (f (top c)) act c) past (deep 1 l) (fine_good B p F x (f (top x)) act past (late (top x)) (λ v _. wrote x.reg.sp x.reg.sp v (s.h - 1 + 1) (omega arith) gr.low gr.low (omega arith) r))

    -- one cell comes
    comes : (v : ℤ) (h : ℕ) → h ≡ s.h + 1 → x.reg.limit + 1 ≤ x.reg.sp → Planned p (s.a + size op) s.b h → After B p F x (pushed v past)
    comes v h e t r = wrote (x.reg.sp - 1) (x.reg.sp - 1) v h (omega arith) (omega arith) (omega arith) (omega arith) r

    pushes_good : (v : Core → ℤ) (h : ℕ) → h ≡ s.h + 1 → Planned p (s.a + size op) s.b h → Good B p F x (pushes v past)
    pushes_good v h e r = room_good B p F x 1 (λ c. goes (pushed (v c) c)) past (λ t. comes (v past) h e t r)

    fetches_good : (n : ℤ) → 1 ≤ s.h → Planned p (s.a + size op) s.b (s.h - 1 + 1) → Good B p F x (fetches B.layout n past)
    fetches_good n l r =
        let act : ℕ → Act = λ a c. goes (put c.reg.sp (cell c a) c) in
        uses_good B p F x 1 (λ c. refers B.layout (top c) n act c) past (deep 1 l) (fine_good B p F x (referred B.layout x.reg.limit (top x) n) act past (referred_late B.layout x.reg.limit (top x) n) (λ a _. wrote x.reg.sp x.reg.sp (cell x a) (s.h - 1 + 1) (omega arith) gr.low gr.low (omega arith) r))

    assigns_good : (n : ℤ) → 2 ≤ s.h → Planned p (s.a + size op) s.b (s.h - 2 + 0) → Good B p F x (assigns B.layout n past)
    assigns_good n l r =
        let act : ℕ → Act = λ a c. goes (popped 2 (put a (top c) c)) in
        uses_good B p F x 2 (λ c. refers B.layout (under c) n act c) past (deep 2 l) (fine_good B p F x (referred B.layout x.reg.limit (under x) n) act past (referred_late B.layout x.reg.limit (under x) n) (λ a e.
        let q = referred_ok B.layout x.reg.limit (under x) n a e in
        shifted (x.reg.sp + 2) (s.h - 2 + 0) (set x.mem a (top x)) (omega arith) (omega arith) r (calm_set B F s.f x.mem a (top x) q.0 (inl (omega arith)))))

    -- the top goes, and bytes are shown, or nothing
    drops : 1 ≤ s.h → Planned p (s.a + size op) s.b (s.h - 1 + 0) → After B p F x (popped 1 past)
    drops l r = dropped 1 (s.h - 1 + 0) (omega arith) r

    reached : InFrame B.program.units s.b s.h k → Reached B F s.f x.reg.sp (x.reg.fp +ℤ k)
    reached fr = rw s.fp_is (reach B p x.mem F s.f x.reg.sp s.h s.b k s.sp_is s.chain fr)

    -- LOAD and STORE
    load_good : InFrame B.program.units s.b s.h k → Planned p (s.a + size op) s.b (s.h - 0 + 1) → Good B p F x (in_use k (λ a. pushes (λ c. cell c a)) past)
    load_good fr r =
        let q = reached fr in
        let act : ℕ → Act = λ a. pushes (λ c. cell c a) in
        let e : placed OutsideStack x.reg.sp (length x.mem) (x.reg.fp +ℤ k) ≡ Ok q.j = placed_at OutsideStack x.reg.sp (length x.mem) q.j (x.reg.fp +ℤ k) q.is q.low (omega (arith, q.high)) in
        subst (λ z. Good B p F x (fine z act past)) (sym e) (pushes_good (λ c. cell c q.j) (s.h - 0 + 1) (omega arith) r)

    store_good : InFrame B.program.units s.b s.h k → 1 ≤ s.h → Planned p (s.a + size op) s.b (s.h - 1 + 0) → Good B p F x (uses 1 (in_use k (λ a c. goes (popped 1 (put a (top c) c)))) past)
    store_good fr l r =
        let q = reached fr in
        let act : ℕ → Act = λ a c. goes (popped 1 (put a (top c) c)) in
        let e : placed OutsideStack x.reg.sp (length x.mem) (x.reg.fp +ℤ k) ≡ Ok q.j = placed_at OutsideStack x.reg.sp (length x.mem) q.j (x.reg.fp +ℤ k) q.is q.low (omega (arith, q.high)) in
        uses_good B p F x 1 (in_use k act) past (deep 1 l) (subst (λ z. Good B p F x (fine z act past)) (sym e)
        (shifted (x.reg.sp + 1) (s.h - 1 + 0) (set x.mem q.j (top x)) (omega arith) (omega arith) r (calm_set B F s.f x.mem q.j (top x) (omega (arith, q.low)) q.side)))

    -- STOREHL
    limits_good : 1 ≤ s.h → Planned p (s.a + size op) s.b (s.h - 1 + 0) → Good B p F x (uses 1 (λ c. fine (placed HeapLimit B.layout.floor (c.reg.sp + 2) (top c +ℤ pos 1)) (λ a c. goes (popped 1 (at_limit a c))) c) past)
    limits_good l r =
        let act : ℕ → Act = λ a c. goes (popped 1 (at_limit a c)) in
        uses_good B p F x 1 (λ c. fine (placed HeapLimit B.layout.floor (c.reg.sp + 2) (top c +ℤ pos 1)) act c) past (deep 1 l)
        (fine_good B p F x (placed HeapLimit B.layout.floor (x.reg.sp + 2) (top x +ℤ pos 1)) act past (placed_late HeapLimit B.layout.floor (x.reg.sp + 2) (top x +ℤ pos 1) (omega arith)) (λ a e.
        let q = placed_ok HeapLimit B.layout.floor (x.reg.sp + 2) (top x +ℤ pos 1) a e in
        moved (popped 1 (at_limit a past)) (s.a + size op) (s.h - 1 + 0) refl refl (omega arith) r (omega (arith, q.1)) q.0 (calm_same B F s.f x.mem)))

    -- the two ways of a branch
    forks : (t : ℤ) (c : Bool) → 1 ≤ s.h → Holds p s.b (to t (s.h - 1)) → Planned p (s.a + size op) s.b (s.h - 1) → After B p F x (popped 1 (cond c (at_pc t past) past))
    forks t true l g r = jumped t 1 (s.h - 1) (omega arith) g
    forks t false l g r = dropped 1 (s.h - 1) (omega arith) r

    forks_back : (t : ℤ) (c : Bool) → 1 ≤ s.h → Holds p s.b (to t (s.h - 1)) → Planned p (s.a + size op) s.b (s.h - 1) → After B p F x (popped 1 (cond c past (at_pc t past)))
    forks_back t true l g r = dropped 1 (s.h - 1) (omega arith) r
    forks_back t false l g r = jumped t 1 (s.h - 1) (omega arith) g

    swaps_good : 2 ≤ s.h → Planned p (s.a + size op) s.b (s.h - 2 + 2) → Good B p F x (uses 2 (λ c. goes (put c.reg.sp (under c) (put (c.reg.sp + 1) (top c) c))) past)
    swaps_good l r =
        uses_good B p F x 2 (λ c. goes (put c.reg.sp (under c) (put (c.reg.sp + 1) (top c) c))) past (deep 2 l)
        (shifted x.reg.sp (s.h - 2 + 2) (set (set x.mem (x.reg.sp + 1) (top x)) x.reg.sp (under x)) (omega arith) gr.low r
        (calm_trans B F s.f x.mem (set x.mem (x.reg.sp + 1) (top x)) (set (set x.mem (x.reg.sp + 1) (top x)) x.reg.sp (under x))
        (calm_set B F s.f x.mem (x.reg.sp + 1) (top x) (omega arith) (inl (omega arith)))
        (calm_set B F s.f (set x.mem (x.reg.sp + 1) (top x)) x.reg.sp (under x) (omega arith) (inl (omega arith)))))

    -- SPRINT: a character, or the end
    letter_good : (a : ℕ) → 1 ≤ s.h → Good B p F x (character (cell x a) (λ b c. shows (b ∷ []) (put c.reg.sp (top c +ℤ pos 1) (at_pc x.reg.pc c))) past)
    letter_good a l =
        let act : ℕ → Act = λ b c. shows (b ∷ []) (put c.reg.sp (top c +ℤ pos 1) (at_pc x.reg.pc c)) in
        fine_good B p F x (lettered (cell x a)) act past (lettered_late (cell x a)) (λ b _.
        moved (put x.reg.sp (top x +ℤ pos 1) x) s.a s.h s.pc_is refl s.sp_is s.planned gr.low gr.above
        (calm_set B F s.f x.mem x.reg.sp (top x +ℤ pos 1) (omega arith) (inl (omega arith))))

    strings_good : 1 ≤ s.h → Planned p (s.a + size op) s.b (s.h - 1 + 0) → Good B p F x (exec B.layout x.reg.pc O.Sprint k past)
    strings_good l r =
        let show : ℕ → Act = λ b c. shows (b ∷ []) (put c.reg.sp (top c +ℤ pos 1) (at_pc x.reg.pc c)) in
        let act : ℕ → Act = λ a c. cond (is_zero (cell c a)) (goes (popped 1 c)) (character (cell c a) show c) in
        uses_good B p F x 1 (λ c. refers B.layout (top c) (pos 0) act c) past (deep 1 l) (fine_good B p F x (referred B.layout x.reg.limit (top x) (pos 0)) act past (referred_late B.layout x.reg.limit (top x) (pos 0)) (λ a _.
        either B p F x (is_zero (cell x a)) (goes (popped 1 past)) (character (cell x a) show past) (drops l r) (letter_good a l)))

    -- a top cell that goes for bytes
    letters_good : 1 ≤ s.h → Planned p (s.a + size op) s.b (s.h - 1 + 0) → Good B p F x (exec B.layout x.reg.pc O.Cprint k past)
    letters_good l r =
        let act : ℕ → Act = λ b c. shows (b ∷ []) (popped 1 c) in
        uses_good B p F x 1 (λ c. character (top c) act c) past (deep 1 l) (fine_good B p F x (lettered (top x)) act past (lettered_late (top x)) (λ b _. drops l r))

  -- the PUSH of a call
  entering : (k : ℤ) (u : ℕ) (v : UnitRecord) → doing B.layout x ≡ Some (record { instruction = record { op = O.Push; argument = k }; next = pos (s.a + 2) }) → Enters B p s.a s.b s.h k u v → x.reg.limit + 1 ≤ x.reg.sp → After B p F x (pushed k (at_pc (pos (s.a + 2)) x))
  entering k u v at-pc c t =
      let l : s.f + 1 ≤ B.size = chain_top B p x.mem F s.f s.b s.chain in
      let calm : Calm B F s.f x.mem (set x.mem (x.reg.sp - 1) k) = calm_set B F s.f x.mem (x.reg.sp - 1) k (omega arith) (inl (omega arith)) in
      stays O.Push k at-pc (refl, refl) (pushed k (at_pc (pos (s.a + 2)) x))
      (calling (record { a = s.a; f = s.f; h = s.h; b = s.b; u = u; v = v; k = k; pc_is = refl; fp_is = s.fp_is; sp_is = omega arith; calls = c; top_is = get_or-set_same x.mem (x.reg.sp - 1) k (pos 0) (omega arith); chain = chain_keep B p x.mem (set x.mem (x.reg.sp - 1) k) F s.f s.b s.chain calm.kept }))
      (omega arith) gr.above calm

-- the STOREFP of an end
ending : (B : Box) (p : Plan) (law : Lawful B.program p) (F : List Frame) (x : Core) (gr : Ground B x) (s : Placed B p F x) (j : ℕ) (v : UnitRecord) (k : ℤ) → doing B.layout x ≡ Some (record { instruction = record { op = O.Storefp; argument = k }; next = pos (s.a + 1) }) → R.Closes B.program s.a s.b s.h j v → Good B p F x (pops at_fp (at_pc (pos (s.a + 1)) x))
ending B p law [] x gr s j v k at-pc e = absurd (omega arith)
ending B p law (g ∷ F) x gr s j v k at-pc e =
    let c = s.chain in
    let l : lim B (g ∷ F) ≤ B.size = chain_lim_top B p x.mem (g ∷ F) s.f s.b c in
    let d : x.reg.sp ≡ s.f + 1 = omega arith in
    let q : j ≡ g.index = omega arith in
    let u : v ≡ g.unit = listed_same B.program.units g.index v g.unit (rw q at e.listed) c.3.listed in
    let y : Core = popped 1 (at_fp (top x) (at_pc (pos (s.a + 1)) x)) in
    uses_good B p (g ∷ F) x 1 (λ c. goes (popped 1 (at_fp (top c) c))) (at_pc (pos (s.a + 1)) x) (omega (arith, gr.len))
    (stays B p law (g ∷ F) x gr s O.Storefp k at-pc (refl, refl) y
    (closes (record { a = s.a + 1; pc_is = refl; is_ret = rw u at e.returns; fp_is = ap (λ i. get_or x.mem i (pos 0)) d ∙ c.2; sp_is = omega arith; waits = c.3; chain = c.4 }))
    (omega (arith, gr.low)) gr.above (calm_same B (g ∷ F) s.f x.mem))

module _ (B : Box) (p : Plan) (law : Lawful B.program p) (F : List Frame) (x : Core) (gr : Ground B x) (s : Placed B p F x) where
  abbrev At : Opcode → ℤ → Type 0
  At op k = doing B.layout x ≡ Some (record { instruction = record { op = op; argument = k }; next = pos (s.a + size op) })

  abbrev then : Opcode → Core
  then op = at_pc (pos (s.a + size op)) x

  -- the next place, by the rule
  next : (op : Opcode) (k : ℤ) (ss : List Successor) → Onto s.a s.h (record { op = op; argument = k }) ss → AllByRecursion (Holds p s.b) ss → Planned p (s.a + size op) s.b (s.h - K.uses (record { op = op; argument = k }) + K.gives (record { op = op; argument = k }))
  next op k ss o t = holds_is p (s.a + size op) s.b (s.h - K.uses (record { op = op; argument = k }) + K.gives (record { op = op; argument = k })) (subst (AllByRecursion (Holds p s.b)) o.1 t).0

  joined : (op : Opcode) (k : ℤ) → At op k → Quiet op → (o : Binary) → 2 ≤ s.h → Planned p (s.a + size op) s.b (s.h - 2 + 1) → Good B p F x (joins (binary o) (then op))
  joined op k e q o l r = joins_good B p law F x gr s op k e q (binary o) (binary_late o) l r

  turned : (op : Opcode) (k : ℤ) → At op k → Quiet op → (o : Unary) → 1 ≤ s.h → Planned p (s.a + size op) s.b (s.h - 1 + 1) → Good B p F x (turns (unary o) (then op))
  turned op k e q o l r = turns_good B p law F x gr s op k e q (unary o) (unary_late o) l r

  came : (op : Opcode) (k : ℤ) → At op k → Quiet op → (v : Core → ℤ) → Planned p (s.a + size op) s.b (s.h - 0 + 1) → Good B p F x (pushes v (then op))
  came op k e q v r = pushes_good B p law F x gr s op k e q v (s.h - 0 + 1) (omega arith) r

  -- the depth stays
  went : (op : Opcode) (k : ℤ) → At op k → Quiet op → Planned p (s.a + size op) s.b (s.h - 0 + 0) → After B p F x (then op)
  went op k e q r = moved B p law F x gr s op k e q (then op) (s.a + size op) (s.h - 0 + 0) refl refl (omega arith) r gr.low gr.above (calm_same B F s.f x.mem)

  -- the top goes
  gone : (op : Opcode) (k : ℤ) → At op k → Quiet op → 1 ≤ s.h → Planned p (s.a + size op) s.b (s.h - 1 + 0) → After B p F x (popped 1 (then op))
  gone op k e q l r = drops B p law F x gr s op k e q l r

  by_rule : (op : Opcode) (k : ℤ) (ss : List Successor) → At op k → RuleOf B.program s.a s.b s.h (record { op = op; argument = k }) ss (K.kind op) → AllByRecursion (Holds p s.b) ss → Good B p F x (exec B.layout x.reg.pc op k (then op))
  by_rule O.Push k ss e (inl c) t =
      let d = c.1.2 in
      let back : Planned p (s.a + 3) s.b (s.h - c.1.1.arguments) = holds_is p (s.a + 3) s.b (s.h - c.1.1.arguments) (subst (AllByRecursion (Holds p s.b)) d.back t).0 in
      room_good B p F x 1 (λ y. goes (pushed k y)) (then O.Push) (λ l. entering B p law F x gr s k c.1.0 c.1.1 e (record { is_call = c.0; listed = d.listed; enters = d.enters; deep = d.deep; back = back }) l)
  by_rule O.Push k ss e (inr r) t = came O.Push k e (refl, refl) (λ _. k) (next O.Push k ss r.1 t)
  by_rule O.Add k ss e r t = joined O.Add k e (refl, refl) B2.Add r.0 (next O.Add k ss r t)
  by_rule O.Sub k ss e r t = joined O.Sub k e (refl, refl) B2.Sub r.0 (next O.Sub k ss r t)
  by_rule O.Mul k ss e r t = joined O.Mul k e (refl, refl) B2.Mul r.0 (next O.Mul k ss r t)
  by_rule O.Div k ss e r t = joined O.Div k e (refl, refl) B2.Div r.0 (next O.Div k ss r t)
  by_rule O.Mod k ss e r t = joined O.Mod k e (refl, refl) B2.Mod r.0 (next O.Mod k ss r t)
  by_rule O.Neg k ss e r t = turned O.Neg k e (refl, refl) U1.Neg r.0 (next O.Neg k ss r t)
  by_rule O.And k ss e r t = joined O.And k e (refl, refl) B2.And r.0 (next O.And k ss r t)
  by_rule O.Or k ss e r t = joined O.Or k e (refl, refl) B2.Or r.0 (next O.Or k ss r t)
  by_rule O.Not k ss e r t = turned O.Not k e (refl, refl) U1.Not r.0 (next O.Not k ss r t)
  by_rule O.Eq k ss e r t = joined O.Eq k e (refl, refl) B2.Eq r.0 (next O.Eq k ss r t)
  by_rule O.Ne k ss e r t = joined O.Ne k e (refl, refl) B2.Ne r.0 (next O.Ne k ss r t)
  by_rule O.Lt k ss e r t = joined O.Lt k e (refl, refl) B2.Lt r.0 (next O.Lt k ss r t)
  by_rule O.Gt k ss e r t = joined O.Gt k e (refl, refl) B2.Gt r.0 (next O.Gt k ss r t)
  by_rule O.Le k ss e r t = joined O.Le k e (refl, refl) B2.Le r.0 (next O.Le k ss r t)
  by_rule O.Ge k ss e r t = joined O.Ge k e (refl, refl) B2.Ge r.0 (next O.Ge k ss r t)
  by_rule O.Dup k ss e r t = uses_good B p F x 1 (pushes top) (then O.Dup) (deep B p law F x gr s 1 r.0) (pushes_good B p law F x gr s O.Dup k e (refl, refl) top (s.h - 1 + 2) (omega (arith, r.0)) (next O.Dup k ss r t))
  by_rule O.Pop k ss e r t = uses_good B p F x 1 (λ c. goes (popped 1 c)) (then O.Pop) (deep B p law F x gr s 1 r.0) (gone O.Pop k e (refl, refl) r.0 (next O.Pop k ss r t))
  by_rule O.Swap k ss e r t = swaps_good B p law F x gr s O.Swap k e (refl, refl) r.0 (next O.Swap k ss r t)
  by_rule O.Jump k ss e r t =
      let g : Holds p s.b (to k s.h) = (subst (AllByRecursion (Holds p s.b)) r t).0 in
      moved B p law F x gr s O.Jump k e (refl, refl) (at_pc k (then O.Jump)) g.0 s.h g.1 refl s.sp_is g.2 gr.low gr.above (calm_same B F s.f x.mem)
  by_rule O.Bf k ss e r t =
      let g = subst (AllByRecursion (Holds p s.b)) r.1 t in
      uses_good B p F x 1 (λ c. goes (popped 1 (cond (is_zero (top c)) (at_pc k c) c))) (then O.Bf) (deep B p law F x gr s 1 r.0) (forks B p law F x gr s O.Bf k e (refl, refl) k (is_zero (top x)) r.0 g.0 (holds_is p (s.a + 2) s.b (s.h - 1) g.1.0))
  by_rule O.Bt k ss e r t =
      let g = subst (AllByRecursion (Holds p s.b)) r.1 t in
      uses_good B p F x 1 (λ c. goes (popped 1 (cond (is_zero (top c)) c (at_pc k c)))) (then O.Bt) (deep B p law F x gr s 1 r.0) (forks_back B p law F x gr s O.Bt k e (refl, refl) k (is_zero (top x)) r.0 g.0 (holds_is p (s.a + 2) s.b (s.h - 1) g.1.0))
  by_rule O.Nop k ss e r t = went O.Nop k e (refl, refl) (next O.Nop k ss r t)
  by_rule O.Read k ss e r t = room_good B p F x 1 takes (then O.Read) (λ l v. comes B p law F x gr s O.Read k e (refl, refl) v (s.h - 0 + 1) (omega arith) l (next O.Read k ss r t))
  by_rule O.Bprint k ss e r t = uses_good B p F x 1 (λ c. shows (spelled (not (is_zero (top c)))) (popped 1 c)) (then O.Bprint) (deep B p law F x gr s 1 r.0) (gone O.Bprint k e (refl, refl) r.0 (next O.Bprint k ss r t))
  by_rule O.Cprint k ss e r t = letters_good B p law F x gr s O.Cprint k e (refl, refl) r.0 (next O.Cprint k ss r t)
  by_rule O.Iprint k ss e r t = uses_good B p F x 1 (λ c. shows (signed_decimal (top c)) (popped 1 c)) (then O.Iprint) (deep B p law F x gr s 1 r.0) (gone O.Iprint k e (refl, refl) r.0 (next O.Iprint k ss r t))
  by_rule O.Sprint k ss e r t = strings_good B p law F x gr s O.Sprint k e (refl, refl) r.0 (next O.Sprint k ss r t)
  by_rule O.Prnln k ss e r t = went O.Prnln k e (refl, refl) (next O.Prnln k ss r t)
  by_rule O.Load k ss e r t = load_good B p law F x gr s O.Load k e (refl, refl) r.0 (next O.Load k ss r.1 t)
  by_rule O.Store k ss e r t = store_good B p law F x gr s O.Store k e (refl, refl) r.0 r.1.0 (next O.Store k ss r.1 t)
  by_rule O.Loadref k ss e r t = fetches_good B p law F x gr s O.Loadref k e (refl, refl) k r.0 (next O.Loadref k ss r t)
  by_rule O.Storeref k ss e r t = assigns_good B p law F x gr s O.Storeref k e (refl, refl) k r.0 (next O.Storeref k ss r t)
  by_rule O.Deref k ss e r t = fetches_good B p law F x gr s O.Deref k e (refl, refl) (pos 0) r.0 (next O.Deref k ss r t)
  by_rule O.Call k ss e r t = absurd r
  by_rule O.Loadfp k ss e r t = absurd r
  by_rule O.Loadsp k ss e r t = absurd r
  by_rule O.Storefp k ss e r t = ending B p law F x gr s r.0.0 r.0.1 k e r.0.2
  by_rule O.Rmem (pos j) ss e r t = room_good B p F x j (λ c. goes (at_sp (c.reg.sp - j) c)) (then O.Rmem) (λ l. shifted B p law F x gr s O.Rmem (pos j) e (refl, refl) (x.reg.sp - j) (s.h - 0 + j) x.mem (omega arith) (omega arith) (next O.Rmem (pos j) ss r.1 t) (calm_same B F s.f x.mem))
  by_rule O.Rmem (negsuc j) ss e r t = absurd (omega (arith, ints))
  by_rule O.Fmem (pos j) ss e r t =
      let l : j ≤ s.h = r.1.0 in
      uses_good B p F x j (λ c. goes (popped j c)) (then O.Fmem) (deep B p law F x gr s j l) (dropped B p law F x gr s O.Fmem (pos j) e (refl, refl) j (s.h - j + 0) (omega arith) (next O.Fmem (pos j) ss r.1 t))
  by_rule O.Fmem (negsuc j) ss e r t = absurd (omega (arith, ints))
  by_rule O.Ret k ss e r t = absurd r
  by_rule O.Halt k ss e r t = stays B p law F x gr s O.Halt k e (refl, refl) x (I.placed s) gr.low gr.above (calm_same B F s.f x.mem)
  by_rule O.Loadpc k ss e r t = absurd r
  by_rule O.Storepc k ss e r t = absurd r
  by_rule O.Storesp k ss e r t = absurd r
  by_rule O.Loadhp k ss e r t = came O.Loadhp k e (refl, refl) (λ c. c.reg.hp) (next O.Loadhp k ss r t)
  by_rule O.Storehp k ss e r t = absurd r
  by_rule O.Loadhl k ss e r t = came O.Loadhl k e (refl, refl) (λ c. pos c.reg.limit -ℤ pos 1) (next O.Loadhl k ss r t)
  by_rule O.Storehl k ss e r t = limits_good B p law F x gr s O.Storehl k e (refl, refl) r.0 (next O.Storehl k ss r t)

  pub placed_step : Good B p F x (performed B.layout x)
  placed_step =
      let r = law.rules s.a s.b s.h s.planned in
      let q = r.1 in
      let op : Opcode = q.what.op in
      let k : ℤ = q.what.argument in
      let e = at_place B x s.a op k gr s.pc_is q.is in
      act_good B p F x op k (pos (s.a + size op)) e (by_rule op k r.0 e q.rule r.2)
