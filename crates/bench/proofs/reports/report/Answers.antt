use Rattle.std.proofs.Common.{◌≡◌, ℕ, List, [], length, IfOk, vec_items, refl, sym, ◌∙◌, subst}
use Rattle.std.proofs.lemmas.Result.{IfOk-from_err}
use Rattle.assembler.specs.Assembly.{assembled}
use Rattle.assembler.specs.Handed.{handed}
use Rattle.bench.specs.Input.{readings_of}
use Rattle.bench.proofs.Assemblies.{sized, cells_is, bench_ok, bench_err}
use Rattle.bench.proofs.reports.report.Goals as goal

pub returns-in_err-labels : goal.returns-in_err-labels
returns-in_err-labels c = IfOk-from_err c.from_residual-in_err-labels.result _ c.from_residual-in_err-labels.ensures.0

pub returns-in_err-units : goal.returns-in_err-units
returns-in_err-units c = IfOk-from_err c.from_residual-in_err-units.result _ c.from_residual-in_err-units.ensures.0

pub started-requires : goal.started-requires
started-requires c =
    let site = c.site_text.result.now in
    let memory = c.as_mut_slice-cells.result.now in
    let labels = c.deref_mut.result.now in
    let units = c.deref_mut-2.result.now in
    let before = handed memory labels units in
    let after = handed c.assemble.new.memory c.assemble.new.labels c.assemble.new.units in
    let A = assembled site [] (length memory) (length labels) (length units) in
    let cells : c.in-Ok.program.counts.cells ≡ length memory = cells_is A before after (length memory) c.in-Ok.program c.in-Ok.ensures (sized site [] (length memory) (length labels) (length units)) in
    c.assemble.auto.memory ∙ sym cells

pub returns-in-Ok : goal.returns-in-Ok
returns-in-Ok c =
    let memory = c.as_mut_slice-cells.result.now in
    let labels = c.deref_mut.result.now in
    let units = c.deref_mut-2.result.now in
    let n : length memory ≡ 1024 = c.as_mut_slice-cells.ensures.len ∙ c.in_ok-memory.ensures.len in
    let l : length labels ≡ 512 = c.deref_mut.ensures.len ∙ c.in_ok-labels.ensures.len in
    let u : length units ≡ 64 = c.deref_mut-2.ensures.len ∙ c.in_ok-units.ensures.len in
    let after = handed c.assemble.new.memory c.assemble.new.labels c.assemble.new.units in
    let xs = readings_of c.args.input.now in
    let e =
    bench_ok c.args.input.now c.site_text.result.now (length memory) (length labels) (length units) (handed memory labels units) after c.site_text.ensures n l u
    xs c.in-Ok.program refl c.in-Ok.ensures
    in
    subst (λ (bs : List ℕ). IfOk c.started.result (λ v. vec_items v ≡ bs)) e c.started.ensures

pub returns : goal.returns
returns c =
    let memory = c.as_mut_slice-cells.result.now in
    let labels = c.deref_mut.result.now in
    let units = c.deref_mut-2.result.now in
    let n : length memory ≡ 1024 = c.as_mut_slice-cells.ensures.len ∙ c.in_ok-memory.ensures.len in
    let l : length labels ≡ 512 = c.deref_mut.ensures.len ∙ c.in_ok-labels.ensures.len in
    let u : length units ≡ 64 = c.deref_mut-2.ensures.len ∙ c.in_ok-units.ensures.len in
    let after = handed c.assemble.new.memory c.assemble.new.labels c.assemble.new.units in
    let e =
    bench_err c.args.input.now c.site_text.result.now (length memory) (length labels) (length units) (handed memory labels units) after c.site_text.ensures n l u
    c.in-Err.fault c.in-Err.ensures
    in
    subst (λ (bs : List ℕ). IfOk c.refused.result (λ v. vec_items v ≡ bs)) e c.refused.ensures
