-- From a call to its return.
use Rattle.std.proofs.Common.{◌≡◌, ℕ, zero, suc, ◌+◌, ◌-◌, ◌<◌, ◌≤◌, Bool, true, false, cond, leb, ◌⊎◌, List, [], ◌∷◌, ◌++◌, length, get_or, take, set, ℤ, pos, negsuc, ◌+ℤ◌, Some, None, Option, sym, refl, ap, ◌∙◌, subst, inl, inr, arith, length-append}
use lib.IntN.{+ℤ_assoc}
use Rattle.std.proofs.lemmas.Bool.{leb-true}
use Rattle.std.proofs.lemmas.List.{get_or-set_same, get_or-set_other, get_or_default}
use Rattle.program.specs.declared.fault.MachineCause.{MachineCause}
use Rattle.program.specs.declared.unit.Unit.{Unit as UnitRecord}
use Rattle.isa.specs.declared.opcode.Opcode.{Opcode}
use Rattle.isa.specs.declared.opcode.Opcode.TheVariants as O
use Rattle.isa.specs.declared.instruction.Instruction.{Instruction}
use Rattle.isa.specs.Code.{instruction}
use Rattle.isa.specs.Table.{size}
use Rattle.instructions.specs.declared.layout.Layout.{Layout}
use Rattle.instructions.specs.Core.{Core, Next, goes, halts, takes, shows, faults, cell, top}
use Rattle.instructions.specs.Exec.{exec}
use Rattle.instructions.specs.Moves.{at_pc, put, pushed}
use Rattle.machine.specs.declared.fetch.Fetched.{Fetched}
use Rattle.machine.specs.Fetch.{fetched, followed}
use Rattle.machine.specs.Start.{layout_of}
use Rattle.machine.specs.Step.{does, performed}
use Rattle.plan.specs.Programs.{Listed}
use Rattle.plan.specs.Lawful.{Plan, Lawful}
use Rattle.controller.specs.Lives.{Handed, program_in, Controller, core_of, New, Life, steps, states}
use Rattle.controller.specs.Law.{doing, is_op, times, Open, Kept, Calling}
use Rattle.controller.proofs.Chain.{Box, Frame, Waits, Chain, lim, chain_top, chain_lim}
use Rattle.controller.proofs.Inv.{Ground, Inv, placed, calling, opens, closes, Moves, same, more, less, After, Good}
use Rattle.controller.proofs.Frames.{step_good}
use Rattle.controller.proofs.Walks.{Leads, Walk, Sane, sane_after, Fine, box_of, origin, start_sane}

walk_first : (lay : Layout) (d y z : Core) (t : List Core) → Walk lay y t z → get_or (t ++ z ∷ []) 0 d ≡ y
walk_first lay d y z [] e = e
walk_first lay d y z (u ∷ t) h = h.0

walk_at : (lay : Layout) (d x z : Core) (t : List Core) → Walk lay x t z → (j : ℕ) → j < length t → Leads (performed lay (get_or (t ++ z ∷ []) j d)) (get_or (t ++ z ∷ []) j d) (get_or (t ++ z ∷ []) (suc j) d)
walk_at lay d x z [] h j l = absurd (omega arith)
walk_at lay d x z (u ∷ t) h zero l = rw (h.0, walk_first lay d h.1 z t h.3) h.2
walk_at lay d x z (u ∷ t) h (suc j) l = walk_at lay d h.1 z t h.3 j (omega arith)

leads_after : (B : Box) (p : Plan) (F : List Frame) (x y : Core) (a : Next) → Good B p F x a → Leads a x y → After B p F x y
leads_after B p F x y (goes z) g l = subst (After B p F x) (sym l) g
leads_after B p F x y (halts z) g l = subst (After B p F x) (sym l) g
leads_after B p F x y (takes z) g l = subst (After B p F x) (sym l.1) (g l.0)
leads_after B p F x y (shows bs z) g l = subst (After B p F x) (sym l) g
leads_after B p F x y (faults f z) g l = absurd l

-- a step that was made passed its test
leads_test : (x y z : Core) (b : Bool) (f : MachineCause) (w : Core) → Leads (cond b (goes z) (faults f w)) x y → (b ≡ true) × (y ≡ z)
leads_test x y z true f w l = (refl, l)
leads_test x y z false f w l = absurd l

-- the step of a known instruction
did : (lay : Layout) (i : Fetched) (op : Opcode) (x y : Core) → doing lay x ≡ Some i → i.instruction.op ≡ op → Leads (performed lay x) x y → Leads (exec lay x.reg.pc op i.instruction.argument (at_pc i.next x)) x y
unfolding performed
did lay i op x y e o l = subst (λ (q : Opcode). Leads (exec lay x.reg.pc q i.instruction.argument (at_pc i.next x)) x y) o (subst (λ (q : Option Fetched). Leads (does lay q x) x y) e l)

followed_next : (a : ℕ) (o : Option Instruction) (i : Fetched) → followed a o ≡ Some i → i.next ≡ pos a +ℤ pos (size i.instruction.op)
followed_next a None i e = let z : ◌≡◌ {A = ℕ} 0 1 = cc in absurd (omega arith)
followed_next a (Some j) i e =
    let q : record { instruction = j; next = pos (a + size j.op) } ≡ i = cc in
    subst (λ (f : Fetched). f.next ≡ pos a +ℤ pos (size f.instruction.op)) q refl

-- the address after an instruction
next_is : (code : List ℤ) (z : ℤ) (i : Fetched) → fetched code z ≡ Some i → i.next ≡ z +ℤ pos (size i.instruction.op)
next_is code (pos a) i e = followed_next a (instruction code a) i e
next_is code (negsuc a) i e = let z : ◌≡◌ {A = ℕ} 0 1 = cc in absurd (omega arith)

-- the limits of the frames only rise
waits_lim : (B : Box) (p : Plan) (m : List ℤ) (g : Frame) (F : List Frame) → Waits B p m g → Chain B p m F g.link g.caller → lim B (g ∷ F) ≤ lim B F
waits_lim B p m g F w c = let l : g.link < lim B F = chain_lim B p m F g.link g.caller c in omega arith

chain_mono : (B : Box) (p : Plan) (m : List ℤ) (G : List Frame) (g : Frame) (F : List Frame) (f b : ℕ) → Chain B p m (G ++ g ∷ F) f b → lim B (G ++ g ∷ F) ≤ lim B (g ∷ F)
chain_mono B p m [] g F f b c = omega arith
chain_mono B p m (h ∷ G) g F f b c =
    let r : lim B (G ++ g ∷ F) ≤ lim B (g ∷ F) = chain_mono B p m G g F h.link h.caller c.4 in
    let q : lim B (h ∷ (G ++ g ∷ F)) ≤ lim B (G ++ g ∷ F) = waits_lim B p m h (G ++ g ∷ F) c.3 c.4 in
    omega arith

open_mono : (B : Box) (p : Plan) (m : List ℤ) (G : List Frame) (h g : Frame) (F : List Frame) → Waits B p m h → Chain B p m (G ++ g ∷ F) h.link h.caller → lim B (h ∷ (G ++ g ∷ F)) ≤ lim B (g ∷ F)
open_mono B p m G h g F w c =
    let r : lim B (G ++ g ∷ F) ≤ lim B (g ∷ F) = chain_mono B p m G g F h.link h.caller c in
    let q : lim B (h ∷ (G ++ g ∷ F)) ≤ lim B (G ++ g ∷ F) = waits_lim B p m h (G ++ g ∷ F) w c in
    omega arith

inv_mono : (B : Box) (p : Plan) (x : Core) (G : List Frame) (g : Frame) (F : List Frame) → Inv B p (G ++ g ∷ F) x → lim B (G ++ g ∷ F) ≤ lim B (g ∷ F)
inv_mono B p x G g F (placed s) = chain_mono B p x.mem G g F s.f s.b s.chain
inv_mono B p x G g F (calling s) = chain_mono B p x.mem G g F s.f s.b s.chain
inv_mono B p x [] g F (opens n l s) = omega arith
inv_mono B p x (h ∷ G) g F (opens n l s) = open_mono B p x.mem G h g F s.waits s.chain
inv_mono B p x [] g F (closes s) = omega arith
inv_mono B p x (h ∷ G) g F (closes s) = open_mono B p x.mem G h g F s.waits s.chain

inv_high : (B : Box) (p : Plan) (x : Core) (F : List Frame) → Inv B p F x → x.reg.sp ≤ B.size
inv_high B p x F (placed s) = let t : s.f + 1 ≤ B.size = chain_top B p x.mem F s.f s.b s.chain in omega arith
inv_high B p x F (calling s) = let t : s.f + 1 ≤ B.size = chain_top B p x.mem F s.f s.b s.chain in omega arith
inv_high B p x [] (opens n l s) = absurd s
inv_high B p x (g ∷ F) (opens n l s) = let t : g.link + 1 ≤ B.size = chain_top B p x.mem F g.link g.caller s.chain in let w = s.waits in omega arith
inv_high B p x [] (closes s) = absurd s
inv_high B p x (g ∷ F) (closes s) = let t : g.link + 1 ≤ B.size = chain_top B p x.mem F g.link g.caller s.chain in let w = s.waits in omega arith

inv_listed : (B : Box) (p : Plan) (x : Core) (g : Frame) (F : List Frame) → Inv B p (g ∷ F) x → Listed B.program.units g.index g.unit
inv_listed B p x g F (placed s) = s.chain.3.listed
inv_listed B p x g F (calling s) = s.chain.3.listed
inv_listed B p x g F (opens n l s) = s.waits.listed
inv_listed B p x g F (closes s) = s.waits.listed

record Under (B : Box) (p : Plan) (xs : List Core) (d : Core) (i : ℕ) (m : List ℤ) (g : Frame) (F : List Frame) (k : ℕ) : Type 0 where
  inner : List Frame
  ground : Ground B (get_or xs (i + 2 + k) d)
  inv : Inv B p (inner ++ g ∷ F) (get_or xs (i + 2 + k) d)
  count : length inner + times O.Ret B.layout xs d (i + 2) k ≡ times O.Call B.layout xs d (i + 2) k
  kept : (a : ℕ) → lim B (g ∷ F) ≤ a → cell (get_or xs (i + 2 + k) d) a ≡ get_or m a (pos 0)

-- a step goes on inside the call, or is its return
record On (c r : ℕ) (G : List Frame) (g : Frame) (F H : List Frame) : Type 0 where
  now : List Frame
  is : H ≡ now ++ g ∷ F
  count : length now + r ≡ length G + c

record Out (c r : ℕ) (G : List Frame) (g : Frame) (y : Core) : Type 0 where
  none_left : length G ≡ 0
  no_call : c ≡ 0
  a_ret : r ≡ 1
  sp_is : y.reg.sp ≡ g.cell + 1 + g.unit.arguments
  fp_is : y.reg.fp ≡ pos g.link
  pc_is : y.reg.pc ≡ pos g.back

onward : (x y : Core) (m : Option Fetched) (G : List Frame) (g : Frame) (F H : List Frame) → Moves x y m (G ++ g ∷ F) H → On (is_op O.Call m) (is_op O.Ret m) G g F H ⊎ Out (is_op O.Call m) (is_op O.Ret m) G g y
onward x y m G g F H (same c r e) = inl (record { now = G; is = e; count = omega arith })
onward x y m G g F H (more c r h e t u v w) = inl (record { now = h ∷ G; is = e; count = omega arith })
onward x y m [] g F H (less c r h e t u v) =
    let q : h ≡ g = cc in
    inr (record { none_left = refl; no_call = c; a_ret = r; sp_is = rw q at t; fp_is = rw q at u; pc_is = rw q at v })
onward x y m (j ∷ G) g F H (less c r h e t u v) = inl (record { now = G; is = cc; count = omega arith })

module _ (B : Box) (p : Plan) (law : Lawful B.program p) (xs : List Core) (d : Core) (n : ℕ) (lead : (j : ℕ) → j < n → Leads (performed B.layout (get_or xs j d)) (get_or xs j d) (get_or xs (suc j) d)) where
  after_at : (j : ℕ) → j < n → (F : List Frame) → Ground B (get_or xs j d) → Inv B p F (get_or xs j d) → After B p F (get_or xs j d) (get_or xs (suc j) d)
  after_at j l F gr v = leads_after B p F (get_or xs j d) (get_or xs (suc j) d) (performed B.layout (get_or xs j d)) (step_good B p law F (get_or xs j d) gr v) (lead j l)

  sane_at : Sane B p (get_or xs 0 d) → (j : ℕ) → j ≤ n → Sane B p (get_or xs j d)
  sane_at s zero l = s
  sane_at s (suc j) l = let t = sane_at s j (omega arith) in sane_after B p t.frames (get_or xs j d) (get_or xs (suc j) d) (after_at j (omega arith) t.frames t.ground t.inv)

  module _ (i : ℕ) (m : List ℤ) (g : Frame) (F : List Frame) where
    kept_on : (k : ℕ) → i + 2 + k < n → (u : Under B p xs d i m g F k) → (a : ℕ) → lim B (g ∷ F) ≤ a → cell (get_or xs (suc (i + 2 + k)) d) a ≡ get_or m a (pos 0)
    kept_on k l u a b =
        let t = after_at (i + 2 + k) l (u.inner ++ g ∷ F) u.ground u.inv in
        let q : lim B (u.inner ++ g ∷ F) ≤ lim B (g ∷ F) = inv_mono B p (get_or xs (i + 2 + k) d) u.inner g F u.inv in
        t.kept a (omega arith) ∙ u.kept a b

    under_more : (k : ℕ) → i + 2 + k < n → Under B p xs d i m g F k → times O.Ret B.layout xs d (i + 2) (suc k) ≤ times O.Call B.layout xs d (i + 2) (suc k) → Under B p xs d i m g F (suc k)
    unfolding times
    under_more k l u o =
        let t = after_at (i + 2 + k) l (u.inner ++ g ∷ F) u.ground u.inv in
        let e : i + 2 + suc k ≡ suc (i + 2 + k) = omega arith in
        elim (onward (get_or xs (i + 2 + k) d) (get_or xs (suc (i + 2 + k)) d) (doing B.layout (get_or xs (i + 2 + k) d)) u.inner g F t.frames t.moves) [
          | inl w ↦ record {
            inner = w.now;
            ground = rw e t.ground;
            inv = rw e (rw w.is at t.inv);
            count = omega arith;
            kept = λ a b. rw e (kept_on k l u a b);
          }
          | inr w ↦ absurd (omega arith)
        ]

    under_all : (k : ℕ) → i + 2 + k ≤ n → Under B p xs d i m g F 0 → Open B.layout xs d i k → Under B p xs d i m g F k
    under_all zero l u o = u
    under_all (suc k) l u o = under_more k (omega arith) (under_all k (omega arith) u (λ j h. o j (omega arith))) (o (suc k) (omega arith))

    returned : (k : ℕ) → i + 2 + k < n → (u : Under B p xs d i m g F k) → times O.Call B.layout xs d (i + 2) (suc k) < times O.Ret B.layout xs d (i + 2) (suc k) → Out (is_op O.Call (doing B.layout (get_or xs (i + 2 + k) d))) (is_op O.Ret (doing B.layout (get_or xs (i + 2 + k) d))) u.inner g (get_or xs (suc (i + 2 + k)) d)
    unfolding times
    returned k l u o =
        let t = after_at (i + 2 + k) l (u.inner ++ g ∷ F) u.ground u.inv in
        elim (onward (get_or xs (i + 2 + k) d) (get_or xs (suc (i + 2 + k)) d) (doing B.layout (get_or xs (i + 2 + k) d)) u.inner g F t.frames t.moves) [ inl w ↦ absurd (omega arith) | inr w ↦ w ]

-- the two steps of a call, the i-th from x, and the next
module _ (B : Box) (p : Plan) (law : Lawful B.program p) (xs : List Core) (n i : ℕ) (x : Core)
    (lead : (j : ℕ) → j < n → Leads (performed B.layout (get_or xs j x)) (get_or xs j x) (get_or xs (suc j) x))
    (f h : Fetched) (fits : x.reg.sp ≤ B.size) (len : length x.mem ≡ B.size) (room-x : x.reg.limit + 1 ≤ x.reg.sp)
    (next-x : f.next ≡ x.reg.pc +ℤ pos 2)
    (y-is : get_or xs (suc i) x ≡ pushed f.instruction.argument (at_pc f.next x))
    (z-is : get_or xs (suc (suc i)) x ≡ at_pc (top (get_or xs (suc i) x)) (put (get_or xs (suc i) x).reg.sp h.next (at_pc h.next (get_or xs (suc i) x))))
    (F : List Frame) where
  abbrev Law : Type 0
  Law = (k : ℕ) × (v : UnitRecord) × Listed B.program.units k v × (f.instruction.argument ≡ pos v.entry) × Kept B.layout xs n i x v

  entered : (g : Frame) → Ground B (get_or xs (suc (suc i)) x) → Inv B p (g ∷ F) (get_or xs (suc (suc i)) x) →
      top (get_or xs (suc i) x) ≡ pos g.unit.entry → g.cell ≡ (get_or xs (suc i) x).reg.sp → (get_or xs (suc i) x).reg.fp ≡ pos g.link → (get_or xs (suc i) x).reg.pc +ℤ pos 1 ≡ pos g.back → Law
  unfolding times
  entered g gr inv t c u b =
      let e : ℤ = f.instruction.argument in
      let sp_y : (get_or xs (suc i) x).reg.sp ≡ x.reg.sp - 1 = ap (λ (q : Core). q.reg.sp) y-is in
      let fp_y : (get_or xs (suc i) x).reg.fp ≡ x.reg.fp = ap (λ (q : Core). q.reg.fp) y-is in
      let pc_y : (get_or xs (suc i) x).reg.pc ≡ x.reg.pc +ℤ pos 2 = ap (λ (q : Core). q.reg.pc) y-is ∙ next-x in
      let mem_y : (get_or xs (suc i) x).mem ≡ set x.mem (x.reg.sp - 1) e = ap (λ (q : Core). q.mem) y-is in
      let mem_z : (get_or xs (suc (suc i)) x).mem ≡ set (get_or xs (suc i) x).mem (get_or xs (suc i) x).reg.sp h.next = ap (λ (q : Core). q.mem) z-is in
      let top_y : top (get_or xs (suc i) x) ≡ e = ap top y-is ∙ get_or-set_same x.mem (x.reg.sp - 1) e (pos 0) (omega arith) in
      let pc_back : pos g.back ≡ x.reg.pc +ℤ pos 3 = sym b ∙ ap (λ q. q +ℤ pos 1) pc_y ∙ +ℤ_assoc x.reg.pc (pos 2) (pos 1) in
      let at : i + 2 + 0 ≡ suc (suc i) = omega arith in
      let base : Under B p xs x i x.mem g F 0 = record {
        inner = [];
        ground = rw at gr;
        inv = rw at inv;
        count = omega arith;
        kept = λ a l. rw at (rw mem_z (get_or-set_other (get_or xs (suc i) x).mem (get_or xs (suc i) x).reg.sp a h.next (pos 0) (omega arith) ∙ rw mem_y (get_or-set_other x.mem (x.reg.sp - 1) a e (pos 0) (omega arith))));
      } in
      let under : (k : ℕ) → i + 2 + k ≤ n → Open B.layout xs x i k → Under B p xs x i x.mem g F k = λ k l o. under_all B p law xs x n lead i x.mem g F k l base o in (
        g.index,
        g.unit,
        inv_listed B p (get_or xs (suc (suc i)) x) g F inv,
        sym top_y ∙ t,
        record {
          pushed = λ a q. rw mem_y (get_or-set_other x.mem (x.reg.sp - 1) a e (pos 0) (omega arith));
          keeps = λ k l o a q. (under k l o).kept a (omega arith);
          gives = λ k l r.
              let m : i + 3 + k ≡ suc (i + 2 + k) = omega arith in
              let v = under k (omega arith) r.0 in
              let w = returned B p law xs x n lead i x.mem g F k l v r.1 in
              rw m (record {
                cells = λ a q. kept_on B p law xs x n lead i x.mem g F k l v a (omega arith);
                sp_is = w.sp_is ∙ omega arith;
                fp_is = w.fp_is ∙ sym u ∙ fp_y;
                pc_is = w.pc_is ∙ pc_back;
              });
        },
      )

  moving : (H : List Frame) → Ground B (get_or xs (suc (suc i)) x) → Inv B p H (get_or xs (suc (suc i)) x) →
      (m : Option Fetched) → is_op O.Call m ≡ 1 → Moves (get_or xs (suc i) x) (get_or xs (suc (suc i)) x) m F H → Law
  moving H gr inv m is (same c r q) = absurd (omega arith)
  moving H gr inv m is (more c r g q t s u b) = entered g gr (rw q at inv) t s u b
  moving H gr inv m is (less c r g q t u v) = absurd (omega arith)

-- a step that does a CALL counts as one
call_counts : (m : Option Fetched) (i : Fetched) → m ≡ Some i → i.instruction.op ≡ O.Call → is_op O.Call m ≡ 1
call_counts m i e o = ap (is_op O.Call) e ∙ ap (λ (q : Opcode). is_op O.Call (Some (record { instruction = record { op = q; argument = i.instruction.argument }; next = i.next }))) o

pub calling_law : (P : Handed) (p : Plan) (law : Lawful (program_in P) p) (k : Controller) → New P k → (l : Life) → Fine P p l → Calling P l
calling_law P p law k new l fine i f h d b c1 o1 c2 o2 =
    let B : Box = box_of P in
    let lay : Layout = layout_of P.counts in
    let xs : List Core = states l in
    let n : ℕ = steps l in
    let x : Core = get_or xs i d in
    let m : length xs ≡ length l.past + 1 = length-append l.past (core_of l.control ∷ []) in
    let past : length l.past ≡ n = fine.counted in
    let e0 : get_or xs i x ≡ x = get_or_default xs i x d (omega arith) in
    let e1 : get_or xs (suc i) x ≡ get_or xs (suc i) d = get_or_default xs (suc i) x d (omega arith) in
    let lead : (j : ℕ) → j < n → Leads (performed lay (get_or xs j x)) (get_or xs j x) (get_or xs (suc j) x) = λ j t. walk_at lay x (origin P) (core_of l.control) l.past fine.walk j (omega arith) in
    let first : Sane B p (get_or xs 0 x) = rw (walk_first lay x (origin P) (core_of l.control) l.past fine.walk) (start_sane P p law k new) in
    let s0 : Sane B p x = rw e0 at (sane_at B p law xs x n lead first i (omega arith)) in
    let s1 = sane_at B p law xs x n lead first (suc i) (omega arith) in
    let a1 = after_at B p law xs x n lead (suc i) b s1.frames s1.ground s1.inv in
    let l0 : Leads (performed lay x) x (get_or xs (suc i) x) = rw e0 at (lead i (omega arith)) in
    let d0 = did lay f O.Push x (get_or xs (suc i) x) c1 o1 l0 in
    let t0 = leads_test x (get_or xs (suc i) x) (pushed f.instruction.argument (at_pc f.next x)) (leb (x.reg.limit + 1) x.reg.sp) _ _ d0 in
    let c3 : doing lay (get_or xs (suc i) x) ≡ Some h = rw e1 c2 in
    let y : Core = get_or xs (suc i) x in
    let d1 = did lay h O.Call y (get_or xs (suc (suc i)) x) c3 o2 (lead (suc i) b) in
    let t1 = leads_test y (get_or xs (suc (suc i)) x) (at_pc (top y) (put y.reg.sp h.next (at_pc h.next y))) (leb (y.reg.sp + 1) (length y.mem)) _ _ d1 in
    let nx : f.next ≡ x.reg.pc +ℤ pos 2 = next_is (take lay.code x.mem) x.reg.pc f c1 ∙ ap (λ (q : Opcode). x.reg.pc +ℤ pos (size q)) o1 in
    moving B p law xs n i x lead f h (inv_high B p x s0.frames s0.inv) s0.ground.len (leb-true (x.reg.limit + 1) x.reg.sp t0.0) nx t0.1 t1.1 s1.frames a1.frames a1.ground a1.inv (doing lay y) (call_counts (doing lay y) h c3 o2) a1.moves
