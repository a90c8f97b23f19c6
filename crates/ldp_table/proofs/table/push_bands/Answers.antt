use Rattle.std.proofs.Common.{◌≡◌, ◌++◌, ◌∷◌, [], length, get_or, take, ap, ◌∙◌, arith, sym, ◌+◌}
use Rattle.std.proofs.Common.{◌<◌}
use Rattle.ldp_table.specs.Bands.{edges}
use Rattle.ldp_table.specs.Texts.{bands_words, band_words, over_words}
use Rattle.ldp_spelling.proofs.Texts.{line_more}
use Rattle.ldp_table.proofs.Lined.{on_ok, band_more, bands_end}
use Rattle.ldp_table.proofs.table.push_bands.Goals as goal

pub loop-band-preserved : goal.loop-band-preserved
loop-band-preserved c =
    let counts = c.args.counts.now in
    let few : length edges < length counts = omega (arith, c.told-counts) in
    line_more c.args.text.now c.loop-band.text c.push_band.new.text
    (take c.loop-band.band (bands_words edges counts))
    (take (c.loop-band.band + 1) (bands_words edges counts))
    (band_words (get_or edges c.loop-band.band 0) (get_or counts c.loop-band.band 0))
    c.loop-band.invariant c.in_ok-push_band.ensures
    (band_more edges counts c.loop-band.band c.loop-band-test.true few)

pub returns : goal.returns
returns c =
    let counts = c.args.counts.now in
    let end : c.loop-band.band ≡ length edges =
    omega (arith, c.loop-band-test.false, c.loop-band.auto.band-end) in
    on_ok c.push_over.result _ _
    (λ h. line_more c.args.text.now c.loop-band.text c.push_over.new.text
    (take c.loop-band.band (bands_words edges counts)) (bands_words edges counts)
    (over_words (get_or counts 5 0)) c.loop-band.invariant h
    (bands_end edges counts c.told-counts
    ∙ ap (λ n. take n (bands_words edges counts) ++ over_words (get_or counts 5 0) ∷ []) (sym end)))
    c.push_over.ensures
