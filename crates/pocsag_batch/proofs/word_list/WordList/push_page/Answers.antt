use Rattle.pocsag_batch.proofs.Prelude.{◌≡◌, ℕ, ◌/◌, ◌<◌, ◌∷◌, ◌++◌, length, get_or, map, take, sym, ap, ◌∙◌, All-get_or, kind_of, Address, Message, kind_unreserved}
use Rattle.pocsag_batch.proofs.Pushes.{pushed, pushed_more, map_taken}
use Rattle.pocsag_batch.proofs.word_list.WordList.push_page.Goals as goal

pub loop-item-init : goal.loop-item-init
loop-item-init c =
    let p = c.args.page.now in
    pushed c.args.self.now c.push.new.self c.address_word.result (Address (p.address / 8) p.function) c.in_ok-push.ensures.more
    (c.address_word.ensures.kind ∙ kind_unreserved p.address p.function c.requires.address c.requires.function c.requires.unreserved)

pub message_word-requires : goal.message_word-requires
message_word-requires c =
    let P : ℕ → Type 0 = λ item. item < 1048576 in
    All-get_or P c.as_slice-item-items.result.now c.loop-item.item-index 0 c.loop-item-test.true
    (rw c.as_slice-item-items.ensures c.requires.small)

pub loop-item-preserved : goal.loop-item-preserved
loop-item-preserved c =
    let p = c.args.page.now in
    let k = c.loop-item.item-index in
    let items : c.as_slice-item-items.result.now ≡ p.payload = c.as_slice-item-items.ensures in
    let within : k < length p.payload = rw (← items) c.loop-item-test.true in
    let kind : kind_of c.message_word.result ≡ Message (get_or p.payload k 0) =
    c.message_word.ensures.kind ∙ ap (λ v. Message (get_or v k 0)) items in
    pushed_more c.loop-item.self c.push-in-loop-item.new.self c.message_word.result (Message (get_or p.payload k 0))
    (map kind_of c.args.self.now) (Address (p.address / 8) p.function ∷ map Message (take k p.payload))
    c.in_ok-push-2.ensures.more kind c.loop-item.invariant
    ∙ ap (λ v. map kind_of c.args.self.now ++ Address (p.address / 8) p.function ∷ v) (sym (map_taken Message p.payload k within))
