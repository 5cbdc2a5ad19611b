use Rattle.pocsag_decode.proofs.Prelude.{◌≡◌, ◌+◌, ◌%◌, ◌≤◌, ◌++◌, ℕ, List, length, map, take, from_be_bytes, w32, kind_of, Kind, text_in, CanList, still_listed}
use Rattle.pocsag_decode.proofs.lister.Lister.take_batch.Given as goal

abbrev pub invariant-loop-word : goal.invariant-loop-word
invariant-loop-word l = record {
  can : CanList l.self;
  grown : length (text_in l.initial.self.records) ≤ length (text_in l.self.records);
  at : l.slot ≡ l.word-index;
  reads : (i : ℕ) (ks : List Kind) → i % 16 ≡ 0
      → still_listed l.initial.self i (map kind_of (map (from_be_bytes w32) (take l.word-index l.words)) ++ ks)
      ≡ still_listed l.self (i + l.word-index) ks;
}
