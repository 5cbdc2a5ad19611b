use Rattle.pocsag_decode.proofs.Prelude.{◌≡◌, ℕ, ◌<◌, [], length, get_or, refl, sym, subst, ◌∙◌, arith, from_be_bytes, w32, resumed, codewords_before, kinds_left, pages_left}
use Rattle.pocsag_decode.proofs.PageReaders.{sync_passed}
use Rattle.pocsag_decode.proofs.page_reader.PageReaderPageSource.next_page.Goals as goal

pub loop-place-preserved-then-place-eq0 : goal.loop-place-preserved-then-place-eq0
loop-place-preserved-then-place-eq0 c =
    let loop = c.loop-place in
    let words = loop.self.words.now in
    let within : loop.place < length words = rw loop.invariant.words (omega arith) in
    let so_far : resumed (codewords_before loop.place) loop.self.current (kinds_left loop.place words) ≡ pages_left c.args.self.now =
    subst (λ (j : ℕ). resumed (codewords_before j) loop.self.current (kinds_left j words) ≡ pages_left c.args.self.now) loop.invariant.at
    loop.invariant.left in
    record {
      words = loop.invariant.words;
      at = refl;
      left = sym (sync_passed words loop.place (from_be_bytes w32 (get_or words loop.place [])) within refl loop.self.current c.if-place-eq0.true) ∙ so_far;
    }
