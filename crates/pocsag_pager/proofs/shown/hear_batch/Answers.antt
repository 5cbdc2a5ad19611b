use Rattle.pocsag_pager.proofs.Prelude.{◌≡◌, ◌*◌, ◌++◌, ℕ, List, subst, ◌∙◌, arith, words_of, HasHeard, pager_address, OnErr, OnOk, err_from_is_err_and, ShowsSome}
use Rattle.pocsag_pager.proofs.Memory.{shows_more}
use Rattle.pocsag_pager.proofs.WholeWords.{three_parts}
use Rattle.pocsag_pager.proofs.shown.hear_batch.Goals as goal

pub returns-clause-heard : goal.returns-clause-heard
returns-clause-heard c =
    let before = c.split_at.result.0.now in
    let frame = c.split_at-2.result.0.now in
    let first = c.in_ok-feed_part.ensures.heard.heard in
    let second : (words : List ℕ) → HasHeard c.args.pager.now words c.args.pages.now.items
    → HasHeard c.feed_words.new.pager ((words ++ words_of before) ++ words_of frame) c.feed_words.new.pages.items =
    λ words h. c.in_ok-feed_words.ensures.heard.heard (words ++ words_of before) (first words h) in
    let last = c.feed_part-2.ensures.heard in
    record {
      heard = λ words h.
          subst (λ (ws : List ℕ). OnOk c.feed_part-2.result (HasHeard c.feed_part-2.new.pager ws c.feed_part-2.new.pages.items))
          (three_parts c.frame.result words c.args.batch.now before c.split_at.result.1.now frame c.split_at-2.result.1.now (omega arith)
          c.requires c.split_at.ensures.front c.split_at.ensures.back c.split_at-2.ensures.front c.split_at-2.ensures.back)
          (last.heard ((words ++ words_of before) ++ words_of frame) (second words h));
      memory = λ words h. last.memory ((words ++ words_of before) ++ words_of frame) (second words h);
      address = last.address ∙ (c.feed_words.ensures.heard.address ∙ c.feed_part.ensures.heard.address);
    }

pub returns-in_err-feed_part-clause-memory : goal.returns-in_err-feed_part-clause-memory
returns-in_err-feed_part-clause-memory c = λ words h.
    let before = c.split_at.result.0.now in
    let frame = c.split_at-2.result.0.now in
    let after = c.split_at-2.result.1.now in
    let whole =
    three_parts c.frame.result words c.args.batch.now before c.split_at.result.1.now frame after (omega arith) c.requires
    c.split_at.ensures.front c.split_at.ensures.back c.split_at-2.ensures.front c.split_at-2.ensures.back in
    let p = err_from_is_err_and c.from_residual.result c.from_residual.ensures.1 in
    let some = c.in_err-feed_part.ensures.memory words h in
    rw p.1
    (subst (λ (ws : List ℕ). ShowsSome ws (pager_address c.args.pager.now)) whole
    (shows_more _ (words_of after) _ (shows_more _ (words_of frame) _ some)))

pub returns-in_err-feed_words-clause-memory : goal.returns-in_err-feed_words-clause-memory
returns-in_err-feed_words-clause-memory c = λ words h.
    let before = c.split_at.result.0.now in
    let after = c.split_at-2.result.1.now in
    let whole =
    three_parts c.frame.result words c.args.batch.now before c.split_at.result.1.now c.split_at-2.result.0.now after (omega arith) c.requires
    c.split_at.ensures.front c.split_at.ensures.back c.split_at-2.ensures.front c.split_at-2.ensures.back in
    let p = err_from_is_err_and c.from_residual-in_err-feed_words.result c.from_residual-in_err-feed_words.ensures.1 in
    let some = c.in_err-feed_words.ensures.memory (words ++ words_of before) (c.in_ok-feed_part.ensures.heard.heard words h) in
    rw p.1
    (subst (λ (a : ℕ). ShowsSome (words ++ words_of c.args.batch.now) a) c.feed_part.ensures.heard.address
    (subst (λ (ws : List ℕ). ShowsSome ws (pager_address c.feed_part.new.pager)) whole (shows_more _ (words_of after) _ some)))

pub returns-clause-memory : goal.returns-clause-memory
returns-clause-memory c = λ words h.
    let before = c.split_at.result.0.now in
    let frame = c.split_at-2.result.0.now in
    let whole =
    three_parts c.frame.result words c.args.batch.now before c.split_at.result.1.now frame c.split_at-2.result.1.now (omega arith) c.requires
    c.split_at.ensures.front c.split_at.ensures.back c.split_at-2.ensures.front c.split_at-2.ensures.back in
    let second = c.in_ok-feed_words.ensures.heard.heard (words ++ words_of before) (c.in_ok-feed_part.ensures.heard.heard words h) in
    subst (λ (a : ℕ). OnErr c.feed_part-2.result (ShowsSome (words ++ words_of c.args.batch.now) a))
    (c.feed_words.ensures.heard.address ∙ c.feed_part.ensures.heard.address)
    (subst (λ (ws : List ℕ). OnErr c.feed_part-2.result (ShowsSome ws (pager_address c.feed_words.new.pager))) whole
    (c.feed_part-2.ensures.memory ((words ++ words_of before) ++ words_of frame) second))
