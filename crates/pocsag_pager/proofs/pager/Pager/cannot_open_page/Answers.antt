use Rattle.pocsag_pager.proofs.Prelude.{◌≡◌, ◌+◌, ◌*◌, ◌<◌, ◌%◌, ℕ, All, drop, length, take, subst, arith, from_be_bytes, w32, words_of, length-append, All-from_get_or, words_long}
use Rattle.pocsag_pager.proofs.Deaf.{CallsNobody, deaf_all, on_not}
use Rattle.pocsag_pager.proofs.pager.Pager.cannot_open_page.Goals as goal

pub returns : goal.returns
returns c =
    let self = c.args.self.now in
    let bytes = c.args.batch.now in
    let a = self.address in
    let frame : c.frame.result ≡ a % 8 = c.frame.ensures in
    let small : All (λ b. b < 256) bytes = All-from_get_or (λ b. b < 256) bytes 0 (λ i h. omega (arith, (c.type_inv.batch i).fits)) in
    on_not c.calls-2.result c.calls-2.ensures
    (λ nor words ps h.
    let place : self.place ≡ length words % 17 = h.stands.place in
    let zero : 0 ≡ length words % 17 = omega arith in
    let long : length bytes ≡ 68 = c.requires in
    let first : c.word_from.result ≡ from_be_bytes w32 (take 4 (drop (4 + 8 * (a % 8)) bytes)) =
    subst (λ (n : ℕ). c.word_from.result ≡ from_be_bytes w32 (take 4 (drop (4 + 8 * n) bytes))) frame c.word_from.ensures in
    let second : c.word_from-2.result ≡ from_be_bytes w32 (take 4 (drop ((4 + 8 * (a % 8)) + 4) bytes)) =
    subst (λ (n : ℕ). c.word_from-2.result ≡ from_be_bytes w32 (take 4 (drop ((4 + 8 * n) + 4) bytes))) frame c.word_from-2.ensures in
    let known =
    deaf_all c.numbers_are_repaired.ensures a self.state words bytes ps zero c.if-not-is_between_pages.ensures long small
    (subst (CallsNobody a) first c.if-calls.ensures) (subst (CallsNobody a) second nor)
    (record { open_page = h.stands.open_page; ended = h.ended }) in
    record {
      stands = record {
        place = let w = words_long bytes in let l = length-append words (words_of bytes) in omega arith;
        open_page = known.open_page;
      };
      ended = known.ended;
    })
