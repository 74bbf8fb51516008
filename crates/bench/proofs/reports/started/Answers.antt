use Rattle.std.proofs.Common.{◌≡◌, ◌/◌, [], length, IfOk, vec_items, ap, ◌∙◌, subst}
use Rattle.std.proofs.lemmas.Result.{IfOk-from_err}
use Rattle.port.specs.Meaning.{meant}
use Rattle.port.specs.Service.{in_service}
use Rattle.machine.specs.Console.{Console, console}
use Rattle.bench.specs.Input.{readings_of}
use Rattle.bench.specs.Trial.{trial, offered}
use Rattle.bench.proofs.Offering.{offered_new}
use Rattle.bench.proofs.reports.started.Goals as goal

pub returns-in_err-bytes : goal.returns-in_err-bytes
returns-in_err-bytes c = IfOk-from_err c.from_residual-in_err-bytes.result _ c.from_residual-in_err-bytes.ensures.0

pub returns : goal.returns
returns c =
    let xs = readings_of c.args.input.now in
    let m = in_service c.new-port.result in
    let m' = in_service c.offer_readings.new.port in
    let places : length c.deref_mut.result.now ≡ 768 = c.deref_mut.ensures.len ∙ c.in_ok-places.ensures.len in
    let bytes : length c.deref_mut-2.result.now ≡ 4096 = c.deref_mut-2.ensures.len ∙ c.in_ok-bytes.ensures.len in
    let e : m ≡ meant [] [] 64 4096 = c.new-port.ensures.empty ∙ ap (λ n. meant [] [] (n / 12) (length c.deref_mut-2.result.now)) places ∙ ap (λ n. meant [] [] 64 n) bytes in
    let o = c.offer_readings.ensures in
    let w : console m' ≡ offered xs = offered_new xs m m' e o.waiting o.shown o.space in
    subst (λ (w : Console). IfOk c.trial.result (λ v. vec_items v ≡ trial c.args.program.counts c.args.memory.now w)) w c.trial.ensures
