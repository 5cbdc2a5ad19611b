use Rattle.pocsag_decode.proofs.Prelude.{◌≡◌, ◌<◌, ◌∷◌, ℕ, Bool, List, length, take, drop, get_or, replicate, refl, sym, ap, subst, ◌∙◌, arith, true, false, true≢false, drop_more, get_or_default, length-drop, length-take, take_all, bytes_eq-Decides, IsCodeword, idle_word, sync_word, words_of, words_long, JudgesMore}
use Rattle.std.proofs.Common.{Ok}
use Rattle.std.proofs.Math.Bool.{beq}
use Rattle.pocsag_decode.proofs.Fine.{fine_after_sync, fine_idles}
use Rattle.pocsag_decode.proofs.judge.judge_batch.Goals as goal

set_flag : (flag : Bool) → beq flag false ≡ false → flag ≡ true
set_flag true e = refl
set_flag false e = absurd (true≢false e)

pub returns-then-eq : goal.returns-then-eq
returns-then-eq c =
    let same : words_of c.args.batch.now ≡ sync_word ∷ replicate 16 idle_word =
    ap words_of ((bytes_eq-Decides _ _).0 (sym c.if-eq.ensures) ∙ c.as_slice.ensures) in
    subst (JudgesMore (Ok false) c.args.place c.args.in_page) (sym same) (fine_idles c.args.place c.args.in_page c.requires.first)

pub judge_kinds-requires-clause-codewords : goal.judge_kinds-requires-clause-codewords
judge_kinds-requires-clause-codewords c = λ k d h.
    let few : k < length c.check_all.new.flags = omega (arith, length-take 16 (drop 1 c.words_in-words.result)) in
    subst IsCodeword (get_or_default (take 16 (drop 1 c.words_in-words.result)) k 0 d h)
    ((c.check_all.ensures k h).0 (set_flag _ (c.if-contains.ensures.cases k false (omega arith) few)))

pub returns : goal.returns
returns c =
    let batch = c.args.batch.now in
    let words = c.words_in-words.result in
    let is : words ≡ words_of batch = c.words_in-words.ensures in
    let b = c.requires.long in
    let l = words_long batch in
    let n = ap length is in
    let long : length words ≡ 17 = omega arith in
    let rest : take 16 (drop 1 words) ≡ drop 1 words = take_all 16 (drop 1 words) (omega (arith, length-drop 1 words)) in
    let all : words_of batch ≡ get_or words 0 0 ∷ take 16 (drop 1 words) =
    sym is ∙ drop_more words 0 0 (omega arith) ∙ ap (λ (l : List ℕ). get_or words 0 0 ∷ l) (sym rest) in
    fine_after_sync c.args.place c.args.in_page (get_or words 0 0) (take 16 (drop 1 words)) (words_of batch) c.judge_kinds.result
    c.requires.first c.if-words-ne-SYNC_WORD.false all c.judge_kinds.ensures
