-- The steps of a call, an opening and an end; and the step from anywhere.
use Rattle.std.proofs.Common.{◌≡◌, ℕ, zero, suc, ◌+◌, ◌-◌, ◌<◌, ◌≤◌, List, [], ◌∷◌, length, get_or, take, set, ℤ, pos, ◌+ℤ◌, ◌-ℤ◌, refl, ap, ◌∙◌, arith, length-set}
use Rattle.std.proofs.lemmas.Int.{ints}
use Rattle.std.proofs.lemmas.List.{get_or-set_same, get_or-set_other, take-set-le}
use Rattle.isa.specs.declared.opcode.Opcode.TheVariants as O
use Rattle.instructions.specs.Core.{Core, goes, top}
use Rattle.instructions.specs.Moves.{at_pc, at_fp, put, popped, pushed}
use Rattle.machine.specs.Step.{performed}
use Rattle.plan.specs.Lawful.{Plan, Lawful, unit}
use Rattle.controller.specs.Law.{doing, is_op}
use Rattle.controller.proofs.Chain.{Box, Frame, lim, chain_top, chain_lim, chain_above, waits_keep}
use Rattle.controller.proofs.Inv.{Ground, Calls, Opens, Closes, Inv, placed, calling, opens, closes, Moves, same, more, less, After, Good, uses_good, room_good, at_place, opcode_is, act_good}
use Rattle.controller.proofs.Step.{placed_step}

-- memory is as it was in the code and from b on
record Quiet (B : Box) (b : ℕ) (m n : List ℤ) : Type 0 where
  len : length n ≡ length m
  code : take B.layout.code n ≡ take B.layout.code m
  kept : (i : ℕ) → b ≤ i → get_or n i (pos 0) ≡ get_or m i (pos 0)

quiet_same : (B : Box) (b : ℕ) (m : List ℤ) → Quiet B b m m
quiet_same B b m = record { len = refl; code = refl; kept = λ i h. refl }

quiet_set : (B : Box) (b : ℕ) (m : List ℤ) (j : ℕ) (v : ℤ) → B.layout.code ≤ j → j < b → Quiet B b m (set m j v)
quiet_set B b m j v c l = record { len = length-set m j v; code = take-set-le B.layout.code m j v c; kept = λ i h. get_or-set_other m j i v (pos 0) (omega arith) }

quiet_after : (B : Box) (p : Plan) (F G : List Frame) (x y : Core) (b : ℕ) → Ground B x → Quiet B b x.mem y.mem → b ≤ lim B F → y.reg.limit ≤ y.reg.sp → B.layout.floor ≤ y.reg.limit → Inv B p G y → Moves x y (doing B.layout x) F G → After B p F x y
quiet_after B p F G x y b gr q l t w v m = record { frames = G; inv = v; ground = record { len = q.len ∙ gr.len; code = q.code ∙ gr.code; ordered = gr.ordered; low = t; above = w }; kept = λ i h. q.kept i (omega arith); moves = m }

-- the CALL
called_step : (B : Box) (p : Plan) (law : Lawful B.program p) (F : List Frame) (x : Core) → Ground B x → Calls B p F x → Good B p F x (performed B.layout x)
called_step B p law F x gr s =
    let c = s.calls in
    let o = opcode_is B.program.code (s.a + 2) O.Call c.is_call in
    let e = at_place B x (s.a + 2) O.Call o.0 gr s.pc_is o.1 in
    let high : s.f + 1 ≤ B.size = chain_top B p x.mem F s.f s.b s.chain in
    let lo : s.f < lim B F = chain_lim B p x.mem F s.f s.b s.chain in
    let enters : top x ≡ pos s.v.entry = s.top_is ∙ c.enters in
    let n : ℤ = pos (s.a + 2 + 1) in
    let back : n ≡ pos (s.a + 3) = ap pos (omega arith) in
    let g : Frame = record { index = s.u; unit = s.v; cell = x.reg.sp; back = s.a + 3; link = s.f; caller = s.b; depth = s.h - s.v.arguments } in
    let m : List ℤ = set x.mem x.reg.sp n in
    let q : Quiet B (x.reg.sp + 1) x.mem m = quiet_set B (x.reg.sp + 1) x.mem x.reg.sp n (omega arith) (omega arith) in
    act_good B p F x O.Call o.0 n e (uses_good B p F x 1 (λ y. goes (at_pc (top y) (put y.reg.sp y.reg.pc y))) (at_pc n x) (omega (arith, gr.len))
    (quiet_after B p F (g ∷ F) x (at_pc (top x) (put x.reg.sp n (at_pc n x))) (x.reg.sp + 1) gr q (omega arith) gr.low gr.above
    (opens 0 (omega arith) (record {
      pc_is = enters ∙ ap pos (omega arith);
      fp_is = s.fp_is;
      sp_is = omega arith;
      linked = λ l. absurd (omega arith);
      level = λ l. absurd (omega arith);
      waits = record { listed = c.listed; returned = c.back; level = omega arith; fits = omega arith; address = get_or-set_same x.mem x.reg.sp n (pos 0) (omega arith) ∙ back };
      chain = chain_above B p x.mem m F s.f s.b s.chain (λ i h. q.kept i (omega arith));
    }))
    (more (ap (is_op O.Call) e) (ap (is_op O.Ret) e) g refl enters refl s.fp_is (ap (λ z. z +ℤ pos 1) s.pc_is ∙ back))))

-- one less, as a cell holds it
pub one_less : (n : ℕ) → 1 ≤ n → pos n -ℤ pos 1 ≡ pos (n - 1)
one_less (suc n) l = omega (arith, ints)
one_less zero l = absurd (omega arith)

-- the opening
opens_step : (B : Box) (p : Plan) (law : Lawful B.program p) (g : Frame) (F : List Frame) (x : Core) → Ground B x → (n : ℕ) → n < 3 → Opens B p n x g F → Good B p (g ∷ F) x (performed B.layout x)
opens_step B p law g F x gr zero l s =
    let w = s.waits in
    let u = law.units g.index g.unit w.listed in
    let o = opcode_is B.program.code g.unit.entry O.Loadfp u.opening.one in
    let e = at_place B x g.unit.entry O.Loadfp o.0 gr (s.pc_is ∙ ap pos (omega arith)) o.1 in
    let high : g.link + 1 ≤ B.size = chain_top B p x.mem F g.link g.caller s.chain in
    let n : ℤ = pos (g.unit.entry + 1) in
    act_good B p (g ∷ F) x O.Loadfp o.0 n e (room_good B p (g ∷ F) x 1 (λ y. goes (pushed y.reg.fp y)) (at_pc n x) (λ r.
    let m : List ℤ = set x.mem (x.reg.sp - 1) x.reg.fp in
    let q : Quiet B g.cell x.mem m = quiet_set B g.cell x.mem (x.reg.sp - 1) x.reg.fp (omega arith) (omega arith) in
    quiet_after B p (g ∷ F) (g ∷ F) x (pushed x.reg.fp (at_pc n x)) g.cell gr q (omega arith) (omega arith) gr.above
    (opens 1 (omega arith) (record {
      pc_is = refl;
      fp_is = s.fp_is;
      sp_is = omega arith;
      linked = λ k. let d : g.cell - 1 ≡ x.reg.sp - 1 = omega arith in rw d (get_or-set_same x.mem (x.reg.sp - 1) x.reg.fp (pos 0) (omega arith) ∙ s.fp_is);
      level = λ k. absurd (omega arith);
      waits = waits_keep B p x.mem m g w (q.kept g.cell (omega arith));
      chain = chain_above B p x.mem m F g.link g.caller s.chain (λ i h. q.kept i (omega arith));
    }))
    (same (ap (is_op O.Call) e) (ap (is_op O.Ret) e) refl)))
opens_step B p law g F x gr (suc zero) l s =
    let w = s.waits in
    let u = law.units g.index g.unit w.listed in
    let o = opcode_is B.program.code (g.unit.entry + 1) O.Loadsp u.opening.two in
    let e = at_place B x (g.unit.entry + 1) O.Loadsp o.0 gr s.pc_is o.1 in
    let high : g.link + 1 ≤ B.size = chain_top B p x.mem F g.link g.caller s.chain in
    let n : ℤ = pos (g.unit.entry + 1 + 1) in
    let v : ℤ = pos x.reg.sp -ℤ pos 1 in
    act_good B p (g ∷ F) x O.Loadsp o.0 n e (room_good B p (g ∷ F) x 1 (λ y. goes (pushed (pos y.reg.sp -ℤ pos 1) y)) (at_pc n x) (λ r.
    let m : List ℤ = set x.mem (x.reg.sp - 1) v in
    let q : Quiet B x.reg.sp x.mem m = quiet_set B x.reg.sp x.mem (x.reg.sp - 1) v (omega arith) (omega arith) in
    quiet_after B p (g ∷ F) (g ∷ F) x (pushed v (at_pc n x)) x.reg.sp gr q (omega arith) (omega arith) gr.above
    (opens 2 (omega arith) (record {
      pc_is = ap pos (omega arith);
      fp_is = s.fp_is;
      sp_is = omega arith;
      linked = λ k. q.kept (g.cell - 1) (omega arith) ∙ s.linked (omega arith);
      level = λ k. get_or-set_same x.mem (x.reg.sp - 1) v (pos 0) (omega arith) ∙ one_less x.reg.sp (omega arith);
      waits = waits_keep B p x.mem m g w (q.kept g.cell (omega arith));
      chain = chain_above B p x.mem m F g.link g.caller s.chain (λ i h. q.kept i (omega arith));
    }))
    (same (ap (is_op O.Call) e) (ap (is_op O.Ret) e) refl)))
opens_step B p law g F x gr (suc (suc zero)) l s =
    let w = s.waits in
    let u = law.units g.index g.unit w.listed in
    let o = opcode_is B.program.code (g.unit.entry + 2) O.Storefp u.opening.three in
    let e = at_place B x (g.unit.entry + 2) O.Storefp o.0 gr s.pc_is o.1 in
    let high : g.link + 1 ≤ B.size = chain_top B p x.mem F g.link g.caller s.chain in
    let n : ℤ = pos (g.unit.entry + 2 + 1) in
    act_good B p (g ∷ F) x O.Storefp o.0 n e (uses_good B p (g ∷ F) x 1 (λ y. goes (popped 1 (at_fp (top y) y))) (at_pc n x) (omega (arith, gr.len))
    (quiet_after B p (g ∷ F) (g ∷ F) x (popped 1 (at_fp (top x) (at_pc n x))) g.cell gr (quiet_same B g.cell x.mem) (omega arith) (omega arith) gr.above
    (placed (record {
      a = g.unit.entry + 3;
      f = x.reg.sp;
      h = 0;
      b = suc g.index;
      pc_is = ap pos (omega arith);
      fp_is = s.level (omega arith);
      sp_is = omega arith;
      planned = law.roots (g.unit.entry + 3) (suc g.index) (unit g.index g.unit w.listed);
      chain = (s.sp_is, refl, (let d : x.reg.sp + 1 ≡ g.cell - 1 = omega arith in rw d (s.linked (omega arith))), w, s.chain);
    }))
    (same (ap (is_op O.Call) e) (ap (is_op O.Ret) e) refl)))
opens_step B p law g F x gr (suc (suc (suc n))) l s = absurd (omega arith)

-- the RET of an end
closes_step : (B : Box) (p : Plan) (law : Lawful B.program p) (g : Frame) (F : List Frame) (x : Core) → Ground B x → Closes B p x g F → Good B p (g ∷ F) x (performed B.layout x)
closes_step B p law g F x gr s =
    let k : ℕ = g.unit.arguments in
    let e = at_place B x s.a O.Ret (pos k) gr s.pc_is s.is_ret in
    let high : g.link + 1 ≤ B.size = chain_top B p x.mem F g.link g.caller s.chain in
    let w = s.waits in
    let n : ℤ = pos (s.a + 2) in
    let back : top x ≡ pos g.back = ap (λ i. get_or x.mem i (pos 0)) s.sp_is ∙ w.address in
    act_good B p (g ∷ F) x O.Ret (pos k) n e (uses_good B p (g ∷ F) x (k + 1) (λ y. goes (popped (k + 1) (at_pc (top y) y))) (at_pc n x) (omega (arith, gr.len))
    (quiet_after B p (g ∷ F) F x (popped (k + 1) (at_pc (top x) (at_pc n x))) g.cell gr (quiet_same B g.cell x.mem) (omega arith) (omega arith) gr.above
    (placed (record { a = g.back; f = g.link; h = g.depth; b = g.caller; pc_is = back; fp_is = s.fp_is; sp_is = omega arith; planned = w.returned; chain = s.chain }))
    (less (ap (is_op O.Call) e) (ap (is_op O.Ret) e) g refl (omega arith) s.fp_is back)))

-- from anywhere
pub step_good : (B : Box) (p : Plan) (law : Lawful B.program p) (F : List Frame) (x : Core) → Ground B x → Inv B p F x → Good B p F x (performed B.layout x)
step_good B p law F x gr (placed s) = placed_step B p law F x gr s
step_good B p law F x gr (calling s) = called_step B p law F x gr s
step_good B p law [] x gr (opens n l s) = absurd s
step_good B p law (g ∷ F) x gr (opens n l s) = opens_step B p law g F x gr n l s
step_good B p law [] x gr (closes s) = absurd s
step_good B p law (g ∷ F) x gr (closes s) = closes_step B p law g F x gr s
