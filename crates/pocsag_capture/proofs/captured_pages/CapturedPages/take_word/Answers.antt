use Rattle.pocsag_capture.proofs.Prelude.{◌≡◌, ◌≢◌, ◌+◌, ◌%◌, ◌∷◌, ◌++◌, Bool, ℕ, List, Option, Some, bit_xor, count_ones, map, refl, sym, ap, ap₂, subst, ◌∙◌, arith, is_some, Kind, sync_word, Page, ends_open, resumed, stays_open, codewords_before, said, capture_bits, without_orphans, IsReceivedFrom, received_word}
use Rattle.std.proofs.lemmas.Result.{err_from_is_err_and}
use Rattle.pocsag_capture.proofs.CorrectedWords.{far_few, near_few}
use Rattle.pocsag_capture.proofs.PagesLeft.{ends_same, few_bits_behind, few_cut_behind, few_lost_behind, received_codeword, received_sync, stays_same}
use Rattle.pocsag_capture.proofs.captured_pages.CapturedPages.take_word.Goals as goal

pub returns-in_default-clause-can : goal.returns-in_default-clause-can
returns-in_default-clause-can c =
    let can = c.requires.can in
    let counted = c.in_default.ensures.counted in
    let walk = c.args.self.now in
    let wrong = count_ones (bit_xor sync_word (received_word (capture_bits walk.capture.now) walk.reception walk.place)) in
    record {
      few = can.few;
      end = can.end;
      within = omega (arith, c.requires.some);
      in_step = can.in_step;
      open_page = can.open_page ∙ sym counted.open_page;
      listable = can.listable;
      few_bits = omega (arith, can.few_bits, counted.bits, near_few wrong);
      few_lost = omega (arith, can.few_lost, counted.beyond, far_few wrong);
      few_cut = omega (arith, can.few_cut, counted.cuts);
      few_before = λ holds. omega (arith, can.few_cut, counted.cuts);
    }

pub returns-in_default-clause-handed : goal.returns-in_default-clause-handed
returns-in_default-clause-handed c = λ ps cuts heard f.
    let walk = c.args.self.now in
    let counted = c.in_default.ensures.counted in
    let index : codewords_before (walk.place + 1) ≡ codewords_before walk.place = omega (arith, c.in_default.ensures.sync) in
    record {
      mended = f.mended;
      codewords = f.codewords;
      received = received_sync (capture_bits walk.capture.now) walk.reception walk.place _ walk.steady walk.corrector _ refl c.requires.some c.in_default.ensures.sync
          counted.bits counted.open_page counted.beyond counted.cuts f.mended f.codewords cuts heard f.received;
      pages = f.pages
          ∙ ap₂ (λ (n : ℕ) (b : Bool). resumed n walk.current (without_orphans b (map said f.mended))) index counted.open_page;
    }

pub with_state-requires : goal.with_state-requires
with_state-requires c =
    let can = c.requires.can in
    let takes = c.in-Some.ensures.taken in
    let b = c.args.self.now.corrector.is_open in
    let word = c.in-Some.corrected_word in
    c.in_ok-page.ensures.some
    ∙ ap₂ ends_open can.open_page (c.kind_of_number-kind.ensures.kind ∙ takes.kind) ∙ ends_same _ b (said takes.mended)
    ∙ ap (λ (e : Option Bool). is_some e) (sym takes.ends)

pub returns-in_err-page-clause-can : goal.returns-in_err-page-clause-can
returns-in_err-page-clause-can c =
    let can = c.requires.can in
    record {
      few = can.few;
      end = can.end;
      within = can.within;
      in_step = can.in_step;
      open_page = c.in_err-page.ensures.same ∙ can.open_page;
      listable = c.take_kind.ensures.listable can.listable;
      few_bits = can.few_bits;
      few_lost = can.few_lost;
      few_cut = can.few_cut;
      few_before = can.few_before;
    }

pub returns-in_err-page-clause-handed : goal.returns-in_err-page-clause-handed
returns-in_err-page-clause-handed c =
    rw (err_from_is_err_and c.from_residual.result c.from_residual.ensures.1).1 (λ ps cuts heard f.
    record {
      mended = f.mended;
      codewords = f.codewords;
      received = f.received;
      pages = f.pages ∙ c.in_err-page.ensures.kept _ _;
    })

pub returns-clause-can : goal.returns-clause-can
returns-clause-can c =
    let can = c.requires.can in
    let walk = c.args.self.now in
    let s = walk.corrector in
    let takes = c.in-Some.ensures.taken in
    let word = c.in-Some.corrected_word in
    let few = few_cut_behind s _ _ _ word.codeword walk.place word.ended takes can.few_cut can.few_before in
    record {
      few = can.few;
      end = can.end;
      within = omega (arith, c.requires.some);
      in_step = can.in_step;
      open_page = c.in_ok-page.ensures.stays
          ∙ ap₂ (λ (b : Bool) (k : Kind). stays_open b (Some k)) can.open_page (c.kind_of_number-kind.ensures.kind ∙ takes.kind)
          ∙ stays_same s.is_open (said takes.mended) ∙ sym takes.open_after;
      listable = c.take_kind.ensures.listable can.listable;
      few_bits = few_bits_behind s _ _ _ word.codeword walk.place word.ended takes can.few_bits;
      few_lost = few_lost_behind s _ _ _ word.codeword walk.place word.ended takes can.few_lost;
      few_cut = omega (arith, few);
      few_before = λ holds. few;
    }

pub returns-clause-handed : goal.returns-clause-handed
returns-clause-handed c = λ ps cuts heard f.
    let walk = c.args.self.now in
    let s = walk.corrector in
    let takes = c.in-Some.ensures.taken in
    let word = c.in-Some.corrected_word in
    let above = c.in-Some.ensures.inside in
    let inside : walk.place % 17 ≢ 0 = λ zero. absurd (omega (arith, above, zero)) in
    let index : codewords_before (walk.place + 1) ≡ codewords_before walk.place + 1 = omega (arith, inside) in
    let rest = without_orphans (stays_open s.is_open (said takes.mended)) (map said f.mended) in
    record {
      mended = takes.mended ∷ f.mended;
      codewords = word.codeword ∷ f.codewords;
      received = subst (λ (e : List Bool). IsReceivedFrom (capture_bits walk.capture.now) walk.reception walk.steady walk.place s (takes.mended ∷ f.mended)
          (word.codeword ∷ f.codewords) (e ++ cuts) heard) c.with_state.ensures.cuts
          (received_codeword (capture_bits walk.capture.now) walk.reception walk.place _ walk.steady s _ refl c.requires.some word.codeword _ word.ended inside refl
          takes f.mended f.codewords cuts heard f.received);
      pages = ap₂ (λ (l : List Page) (m : List Page). l ++ m) (sym c.with_state.ensures.pages)
          (f.pages ∙ ap₂ (λ (n : ℕ) (b : Bool). resumed n c.take_kind.new.current (without_orphans b (map said f.mended))) index takes.open_after)
          ∙ sym (c.in_ok-page.ensures.reads (codewords_before walk.place) rest (omega (arith, inside)))
          ∙ ap (λ (k : Kind). resumed (codewords_before walk.place) walk.current (k ∷ rest)) (c.kind_of_number-kind.ensures.kind ∙ takes.kind);
    }
