-- What is known of bytes that were judged.
use Rattle.pocsag_show.proofs.Prelude.{◌≡◌, ℕ, ◌-◌, ◌*◌, ◌/◌, ◌^◌, ◌<◌, List, length, map, ap, ap₂, sym, subst, ◌∙◌, arith, length-map, kind_of, Page, codewords_in, pages_from, reads_plainly, ReadsAs, codewords_are, idles_in, IsJudged, kinds_read, NumbersPages, pages_begun, Judged}

module _ (X : List ℕ) (ps : List Page) (reading : ReadsAs X ps) where
  pub kinds_are : map kind_of (codewords_in X) ≡ kinds_read reading
  kinds_are = ap (map kind_of) (codewords_are X reading.codewords reading.sent)

  pub pages_are : pages_from 0 (kinds_read reading) ≡ ps
  pages_are = sym (reads_plainly reading.reads).pages

  begun_are : pages_begun X ≡ ps
  begun_are = ap (pages_from 0) kinds_are ∙ pages_are

  module _ (n i : ℕ) (long : n ≡ length (map kind_of (codewords_in X))) (idle : i ≡ idles_in (map kind_of (codewords_in X))) where
    pub judged_is : (judged : Judged) → n < 2 ^ 62 → judged.bytes.now ≡ X → NumbersPages (pages_begun X) judged.numbers
        → judged.counts.batches ≡ n / 16 → judged.counts.codewords ≡ n - i → judged.counts.idles ≡ i
        → IsJudged X judged
    judged_is judged few bytes numbers batches codewords idles =
        let ks = kinds_read reading in
        let whole : length ks ≡ 16 * reading.sent.batches = length-map reading.codewords kind_of ∙ reading.sent.whole.1 in
        let some : 0 < reading.sent.batches = reading.sent.whole.0 in
        let all : n ≡ length ks = long ∙ ap length kinds_are in
        let same : i ≡ idles_in ks = idle ∙ ap idles_in kinds_are in
        record {
          bytes = bytes;
          pages = ps;
          reading = reading;
          numbers = subst (λ (qs : List Page). NumbersPages qs judged.numbers) begun_are numbers;
          batches = omega arith;
          codewords = codewords ∙ ap₂ (λ (x y : ℕ). x - y) all same;
          idles = idles ∙ same;
          some = omega arith;
          few = omega arith;
        }
