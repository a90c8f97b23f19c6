use Rattle.std.proofs.Common.{◌≡◌, ap, subst, arith}
use Rattle.std.proofs.lemmas.Result.{err_from_is_err_and}
use Rattle.ldp_sweep.specs.Cut.{Cut, start}
use Rattle.ldp_sweep.specs.Peaks.{IsTally, IsFirstUndefined}
use Rattle.ldp_sweep.proofs.FirstUndefined.{first_undefined, none_undefined}
use Rattle.ldp_sweep.proofs.Tallies.{tally_peak}
use Rattle.ldp_sweep.proofs.tally.tally_of.Goals as goal

pub returns-in_err-peak-clause-undefined : goal.returns-in_err-peak-clause-undefined
returns-in_err-peak-clause-undefined g c =
    let p = err_from_is_err_and c.from_residual.result c.from_residual.ensures.1 in
    rw (p.1, p.2)
    (first_undefined (g.S.Sweep.cut c.args.sweep.now) c.in_err-peak.field-0.0.cell
    c.in_err-peak.ensures.undefined)

pub returns-in_err-height-clause-undefined : goal.returns-in_err-height-clause-undefined
returns-in_err-height-clause-undefined g c =
    let cell = c.in_err-height.field-0.0.cell in
    let p = err_from_is_err_and c.from_residual-in_err-height.result
    c.from_residual-in_err-height.ensures.1 in
    rw (p.1, p.2)
    (first_undefined (g.S.Sweep.cut c.args.sweep.now) cell
    (subst (λ (cut : Cut). IsFirstUndefined cut cell) c.loop-height.invariant.same
    c.in_err-height.ensures.undefined))

pub returns-clause-peak : goal.returns-clause-peak
returns-clause-peak g c =
    let cut : Cut = g.S.Sweep.cut c.args.sweep.now in
    let none : c.loop-height.height ≡ 0 = omega (arith, c.loop-height-test.false) in
    tally_peak cut c.args.tolerance _ c.loop-height.tally c.loop-height.invariant.tally
    (ap (start cut.cells cut.nodes) none)

pub returns-clause-defined : goal.returns-clause-defined
returns-clause-defined g c =
    let cut : Cut = g.S.Sweep.cut c.args.sweep.now in
    let none : c.loop-height.height ≡ 0 = omega (arith, c.loop-height-test.false) in
    let all : IsTally cut c.args.tolerance cut.cells c.loop-height.tally =
    subst (λ n. IsTally cut c.args.tolerance n c.loop-height.tally)
    (ap (start cut.cells cut.nodes) none) c.loop-height.invariant.tally in
    none_undefined cut.value cut.cells all.defined
