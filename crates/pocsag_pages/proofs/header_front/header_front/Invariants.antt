use Rattle.pocsag_pages.proofs.Prelude.{◌≡◌, ◌+◌, drop, length, min, line_ends_first}
use Rattle.pocsag_pages.proofs.header_front.header_front.Given as goal

-- the line ends so far and those to come
abbrev pub invariant-loop-end : goal.invariant-loop-end
invariant-loop-end l =
    l.end + line_ends_first (drop l.end l.file) ≡ min 3 (length l.file) + line_ends_first (drop 3 l.file)
