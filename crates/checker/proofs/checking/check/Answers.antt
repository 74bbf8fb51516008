use Rattle.std.proofs.Common.{◌≡◌, ℕ, ◌≤◌, length, replicate, ℤ, None, sym, refl, ap, ◌∙◌, subst, inr, arith, w64, SFits, rules}
use Rattle.std.proofs.lemmas.List.{length-take}
use Rattle.std.proofs.lemmas.Int.{to_z-of_z}
use Rattle.program.specs.Faults.{refusal}
use Rattle.program.specs.declared.counts.Counts.{Counts}
use Rattle.program.specs.declared.fault.Fault.TheVariants.{Check}
use Rattle.program.specs.declared.fault.Place.TheVariants.{Address}
use Rattle.controller.proofs.Laws.{laws}
use Rattle.plan.specs.Programs.{Program, program_of}
use Rattle.plan.specs.Lawful.{Least, Table, plan_of}
use Rattle.plan.specs.Causes.{Due, Turn}
use Rattle.plan.proofs.Walking.{due_not}
use Rattle.checker.specs.Verdict.{Roomy}
use Rattle.checker.specs.Work.{places_of}
use Rattle.checker.proofs.Outcomes.{unset_none, handed, code_low}
use Rattle.checker.proofs.checking.check.Goals as goal

pub explore-answer-requires : goal.explore-answer-requires
explore-answer-requires c =
    let s : c.counts-counts.result ≡ c.args.program.counts = c.counts-counts.ensures in
    let code : c.counts-counts.result.code ≡ c.args.program.counts.code = ap (λ (x : Counts). x.code) s in
    let units : c.counts-counts.result.units ≡ c.args.program.counts.units = ap (λ (x : Counts). x.units) s in
    let low : c.args.program.counts.code ≤ 65536 = code_low c.args.program.counts.cells c.args.program.counts.code c.args.program.counts.data c.args.program.counts.heap 65536 c.args.program.fits c.args.program.most in
    record {
      small = simp length-take (omega (arith, low, code));
      few = simp length-take (omega (arith, units, c.args.program.united));
      table = simp length-take (omega (arith, c.if-plan-code.false));
      slots = simp length-take (omega (arith, c.if-visits-code.false));
      unset = unset_none c.fill.new.self (length c.args.plan.now) (c.fill.ensures.after (λ y e. search rules));
    }

pub returns-in-Ok : goal.returns-in-Ok
returns-in-Ok c =
    let s : c.counts-counts.result ≡ c.args.program.counts = c.counts-counts.ensures in
    let k : length c.unmark.new.plan ≡ length c.args.plan.now = omega arith in
    let q : length c.explore-answer.new.visits ≡ length c.args.visits.now = omega arith in
    let v = subst (λ (P : Program). Least P (plan_of (places_of c.explore-answer.new.plan))) (handed c.counts-counts.result c.args.program.counts c.args.memory.now c.args.units.now s) c.in-Ok.ensures in
    let l = subst (λ (t : Table). Least (program_of c.args.program.counts c.args.memory.now c.args.units.now) (plan_of t)) (sym c.unmark.ensures) v in
    record {
      same = refl;
      roomy = subst (λ (x : Counts). Roomy x c.args.units.now c.args.plan.now c.args.visits.now) s (record { table = c.if-plan-code.false; list = c.if-visits-code.false; units = c.if-units-count.false });
      length_is = c.if-memory-counts.false ∙ ap (λ (x : Counts). x.cells) s;
      kept = k;
      least = l;
      zeros = c.zero.ensures ∙ ap (λ (z : ℕ). replicate z 0) q;
      laws = laws (record { counts = c.args.program.counts; cells = c.args.memory.now; units = c.args.units.now }) (plan_of c.unmark.new.plan) l.lawful;
    }

pub returns-in-Err : goal.returns-in-Err
returns-in-Err c =
    let s : c.counts-counts.result ≡ c.args.program.counts = c.counts-counts.ensures in
    let k : length c.explore-answer.new.plan ≡ length c.args.plan.now = omega arith in
    let q : length c.explore-answer.new.visits ≡ length c.args.visits.now = omega arith in
    let P : Program = program_of c.args.program.counts c.args.memory.now c.args.units.now in
    let h = handed c.counts-counts.result c.args.program.counts c.args.memory.now c.args.units.now s in
    let f : SFits w64 c.in-Err.finding.address = search rules in
    let fault : c.refuse-in-Err.result.fault ≡ Check c.in-Err.finding.cause (Address c.in-Err.finding.address) = c.refuse-in-Err.ensures.1 ∙ ap (λ (z : ℤ). Check c.in-Err.finding.cause (Address z)) (to_z-of_z w64 c.in-Err.finding.address f) in
    let due = subst (λ (z : Program). Due z c.in-Err.finding.cause c.in-Err.finding.address) h c.in-Err.ensures.0 in (
      c.refuse-in-Err.ensures.0,
      inr (inr (record {
        cause = c.in-Err.finding.cause;
        address = c.in-Err.finding.address;
        fault = fault;
        says = ap refusal fault;
        roomy = subst (λ (x : Counts). Roomy x c.args.units.now c.args.plan.now c.args.visits.now) s (record { table = c.if-plan-code.false; list = c.if-visits-code.false; units = c.if-units-count.false });
        length_is = c.if-memory-counts.false ∙ ap (λ (x : Counts). x.cells) s;
        turn = subst (λ (z : Program). Turn z c.in-Err.finding.cause) h c.in-Err.ensures.1;
        due = due;
        none = λ o law. due_not P o law c.in-Err.finding.cause c.in-Err.finding.address due;
        unset = c.fill-in-Err.ensures.after (λ y e. search rules) ∙ ap (λ (z : ℕ). replicate z None) k;
        zeros = c.zero.ensures ∙ ap (λ (z : ℕ). replicate z 0) q;
      })),
    )
