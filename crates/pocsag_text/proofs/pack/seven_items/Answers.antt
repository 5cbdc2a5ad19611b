use Rattle.pocsag_text.proofs.Prelude.{◌≡◌, ℕ, drop, take, sym, ap, ◌∙◌, flat_map, take_rest, high_first, low_first}
use Rattle.pocsag_text.proofs.SevenItems.{seven_items_bits, seven_items_small, twenty_by_four}
use Rattle.pocsag_text.proofs.pack.seven_items.Goals as goal

pub returns-clause-bits : goal.returns-clause-bits
returns-clause-bits c =
    let text = c.args.text.now in
    let four = λ (k : ℕ). ap (λ rest. flat_map (low_first 7) (take 4 rest)) (take_rest text k) in
    let b : high_first 28 c.bits_of_four-b.result ≡ flat_map (low_first 7) (take 4 (drop 4 text)) = c.bits_of_four-b.ensures.bits ∙ four 4 in
    let d : high_first 28 c.bits_of_four-c.result ≡ flat_map (low_first 7) (take 4 (drop 8 text)) = c.bits_of_four-c.ensures.bits ∙ four 8 in
    let e : high_first 28 c.bits_of_four-d.result ≡ flat_map (low_first 7) (take 4 (drop 12 text)) = c.bits_of_four-d.ensures.bits ∙ four 12 in
    let f : high_first 28 c.bits_of_four-e.result ≡ flat_map (low_first 7) (take 4 (drop 16 text)) = c.bits_of_four-e.ensures.bits ∙ four 16 in
    seven_items_bits c.bits_of_four-a.result c.bits_of_four-b.result c.bits_of_four-c.result c.bits_of_four-d.result c.bits_of_four-e.result
    c.bits_of_four-b.ensures.fits c.bits_of_four-c.ensures.fits c.bits_of_four-d.ensures.fits c.bits_of_four-e.ensures.fits
    ∙ rw (c.bits_of_four-a.ensures.bits, b, d, e, f) (sym (twenty_by_four text))

pub returns-clause-small : goal.returns-clause-small
returns-clause-small c =
    seven_items_small c.bits_of_four-a.result c.bits_of_four-b.result c.bits_of_four-c.result c.bits_of_four-d.result c.bits_of_four-e.result
    c.bits_of_four-a.ensures.fits c.bits_of_four-b.ensures.fits c.bits_of_four-c.ensures.fits c.bits_of_four-d.ensures.fits
    c.bits_of_four-e.ensures.fits
