use Rattle.pocsag_text.proofs.Prelude.{◌≡◌, List, ℕ, take, sym, ap, ◌∙◌, item_bits, alpha_text, trim_end, codes_of}
use Rattle.pocsag_text.proofs.RoundTrips.{alpha_text-back}
use Rattle.pocsag_text.proofs.unpack.unpack_alpha.Goals as goal

whole : (text now codes items : List ℕ) (len : ℕ) → text ≡ take len codes → now ≡ codes → take len now ≡ trim_end 0 now →
    codes ≡ codes_of 7 (item_bits items) → text ≡ alpha_text items
unfolding alpha_text
whole text now codes items len t n e c =
    t ∙ ap (take len) (sym n) ∙ e ∙ ap (trim_end 0) (n ∙ c)

pub returns-clause-text : goal.returns-clause-text
returns-clause-text c =
    whole _ _ _ c.args.items.now c.trimmed_len-len.result c.truncate.ensures.items c.deref.ensures.value
    c.trimmed_len-len.ensures.trimmed c.in_ok-text.ensures.codes

pub returns-clause-back : goal.returns-clause-back
returns-clause-back c = λ t h.
    whole _ _ _ c.args.items.now c.trimmed_len-len.result c.truncate.ensures.items c.deref.ensures.value
    c.trimmed_len-len.ensures.trimmed c.in_ok-text.ensures.codes ∙ alpha_text-back t c.args.items.now h
