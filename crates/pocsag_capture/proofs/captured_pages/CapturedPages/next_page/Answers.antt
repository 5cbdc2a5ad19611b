use Rattle.pocsag_capture.proofs.Prelude.{◌≡◌, ◌+◌, ◌-◌, ◌*◌, ◌++◌, ◌<◌, ◌≤◌, [], Bool, false, List, ℕ, Option, None, Some, map, sym, ap, ap₂, subst, ◌∙◌, arith, is_some, option_to_list, append-nil, All-nil, IsListable, Page, closed, resumed, codewords_before, OpenPage, said, capture_bits, without_orphans, IsReceivedFrom, all_batches, cut_by, WordCorrector}
use Rattle.std.proofs.Common.{IfNone, IfSome}
use Rattle.pocsag_decode.proofs.Transmissions.{resumed_end}
use Rattle.pocsag_capture.proofs.PagesLeft.{closed_some, few_at_end, fewer_left, no_words, received_end}
use Rattle.pocsag_capture.proofs.captured_pages.CapturedPages.next_page.Goals as goal

fewer_on : {A : Type 0} (o : Option A) (a b d : ℕ) → IfSome o (λ _. a < b) → b ≤ d → IfSome o (λ _. a < d)
fewer_on None a b d lt le = tt
fewer_on (Some x) a b d lt le = omega arith

none_only : {A P : Type 0} (o : Option A) → P → IfNone o P
none_only None p = p
none_only (Some x) p = tt

pub with_state-requires : goal.with_state-requires
with_state-requires c =
    c.end_page.ensures.some ∙ c.loop-self.invariant.can.open_page ∙ closed_some c.loop-self.self.corrector.is_open
    ∙ ap (λ (e : Option Bool). is_some e) (sym c.close-is_cut.ensures.ended)

pub returns : goal.returns
returns c =
    let can = c.loop-self.invariant.can in
    let walk = c.loop-self.self in
    let s = walk.corrector in
    let all : walk.place ≡ 17 * all_batches walk.reception = omega (arith, can.within, c.all_batches.ensures) in
    let ended = c.close-is_cut.ensures.ended in
    let last = c.close-is_cut.ensures.cut ∙ ap (λ (e : Option Bool). (record s { is_open = false; cut = s.cut + cut_by e })) ended in
    record {
      can = record {
        few = can.few;
        end = can.end;
        within = can.within;
        in_step = can.in_step;
        open_page = ap (λ (o : Option OpenPage). is_some o) c.end_page.ensures.none ∙ sym (ap (λ (t : WordCorrector). t.is_open) last);
        listable = rw c.end_page.ensures.none (All-nil IsListable);
        few_bits = omega (arith, can.few_bits, ap (λ (t : WordCorrector). t.corrected) last);
        few_lost = omega (arith, can.few_lost, ap (λ (t : WordCorrector). t.lost) last);
        few_cut = few_at_end s.is_open s.cut _ walk.place can.few_cut can.few_before (ap (λ (t : WordCorrector). t.cut) last);
        few_before = λ holds. absurd (cc (ap (λ (t : WordCorrector). t.is_open) last, holds));
      };
      handed = λ ps cuts heard f.
          let none = no_words (capture_bits walk.capture.now) walk.reception walk.place f.mended all f.received.each in
          let no_pages : ps ≡ [] =
          f.pages
          ∙ ap₂ (λ (o : Option OpenPage) (ms : List (Option ℕ)). resumed (codewords_before walk.place) o (without_orphans c.close-is_cut.new.self.is_open (map said ms)))
          c.end_page.ensures.none none in
          c.loop-self.invariant.handed _ _ heard (record {
            mended = f.mended;
            codewords = f.codewords;
            received = subst (λ (e : List Bool). IsReceivedFrom (capture_bits walk.capture.now) walk.reception walk.steady walk.place s f.mended f.codewords (e ++ cuts) heard)
                (ap option_to_list (sym ended) ∙ c.with_state.ensures.cuts)
                (received_end (capture_bits walk.capture.now) walk.reception walk.place walk.steady s _ f.mended f.codewords cuts heard all last f.received);
            pages = ap₂ (λ (l : List Page) (m : List Page). l ++ m) (sym c.with_state.ensures.pages ∙ c.end_page.ensures.page) no_pages
                ∙ append-nil (closed walk.current) ∙ sym (resumed_end (codewords_before walk.place) walk.current)
                ∙ sym (ap (λ (ms : List (Option ℕ)). resumed (codewords_before walk.place) walk.current (without_orphans s.is_open (map said ms))) none);
          });
      listable = rw (sym c.with_state.ensures.pages, c.end_page.ensures.page) can.listable;
      fewer = fewer_on c.with_state.result _ _ _
          (fewer_left (2 * (17 * all_batches walk.reception - walk.place)) s.is_open _ c.with_state.result (ap option_to_list (sym ended) ∙ c.with_state.ensures.cuts)
          (ap (λ (t : WordCorrector). t.is_open) last)) c.loop-self.invariant.fewer;
      over = none_only c.with_state.result (record {
        all = all;
        none = c.end_page.ensures.none;
        closes = ap (λ (t : WordCorrector). t.is_open) last;
      });
    }
