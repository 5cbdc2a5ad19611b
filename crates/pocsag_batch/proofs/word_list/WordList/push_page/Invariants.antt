use Rattle.pocsag_batch.proofs.Prelude.{◌≡◌, ◌/◌, ◌∷◌, ◌++◌, map, take, kind_of, Address, Message}
use Rattle.pocsag_batch.proofs.word_list.WordList.push_page.Given as goal

-- the address codeword, and the message codewords so far
abbrev pub invariant-loop-item : goal.invariant-loop-item
invariant-loop-item l =
    map kind_of l.self
    ≡ map kind_of l.fn.self ++ Address (l.page.address / 8) l.page.function ∷ map Message (take l.item-index l.page.payload)
