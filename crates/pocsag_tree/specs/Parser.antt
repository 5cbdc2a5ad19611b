-- Reading a certificate from a list of bytes, field by field. Only contracts of private functions speak
-- of it: what a certificate is, and which fault is answered, stands in `Spelling` and `Parts`.
use Rattle.std.specs.Prelude.{◌≡◌, ℕ, zero, suc, ◌+◌, ◌-◌, ◌*◌, ◌≤◌, ◌==◌, ◌&&◌, nat_lt, nat_le, if◌then◌else◌, List, [], ◌∷◌, length, take, Result, Ok, Err}
use Rattle.pocsag_words.specs.declared.ending.End.{End}
use Rattle.pocsag_words.specs.declared.ending.End.TheVariants as ends
use Rattle.pocsag_words.specs.Devices.{one_more}
use Rattle.pocsag_tree.specs.declared.limits.Ranges.{Ranges}
use Rattle.pocsag_tree.specs.Limits.{first_ranges, second_ranges, greatest_depth, greatest_set, most_nodes}
use Rattle.pocsag_tree.specs.declared.refusals.CertificateFault.{CertificateFault}
use Rattle.pocsag_tree.specs.declared.refusals.CertificateFault.TheVariants as fault
use Rattle.pocsag_tree.specs.BoundTrees.{BoundTree, BoundTrees, overload, split, cut, close, unexamined, none, more, all_nodes, all_nodes_in, depth_of, deepest}
use Rattle.pocsag_tree.specs.declared.shape.Tree.{Tree}
use Rattle.pocsag_tree.specs.Views.{bound_tree_of}

infixl 10 ◌>>=◌
abbrev pub ◌>>=◌ : {A B : Type 0} → Result A CertificateFault → (A → Result B CertificateFault) → Result B CertificateFault
(Ok x) >>= f = f x
(Err e) >>= f = Err e

-- All but the last k bytes.
unfoldable pub but_last : ℕ → List ℕ → List ℕ
but_last k bytes = take (length bytes - k) bytes

-- What a function returned, seen by view, is what reading gives, unless reader or memory refused. Where
-- one of them did, and just the bytes before that were read, their end comes where a byte is wanted.
abbrev pub Fails : {Y : Type 0} → CertificateFault → (stopped : Type 0) → Result Y CertificateFault → Type 0
Fails fault.ReadFault stopped read = stopped → read ≡ Err fault.Truncated
Fails fault.OutOfMemory stopped read = stopped → read ≡ Err fault.Truncated
Fails f stopped read = read ≡ Err f

abbrev pub Gives : {X Y : Type 0} → (X → Y) → (stopped : Type 0) → Result X CertificateFault → Result Y CertificateFault → Type 0
Gives view stopped (Ok x) read = read ≡ Ok (view x)
Gives view stopped (Err e) read = Fails e stopped read

-- What a step of reading does with the bytes that its reader holds: it leaves no more than there were, and its answer, seen
-- with the bytes that it leaves, is what this reading gives of those before. So it is too where some of the last bytes that
-- it leaves are thought away, for it reads no further.
pub record ReadsBy {X Y : Type 0} (reading : List ℕ → Result Y CertificateFault) (seen : X → List ℕ → Y)
    (result : Result X CertificateFault) (before after : List ℕ) : Type 0 where
  pub shrinks : length after ≤ length before
  pub bytes : (k : ℕ) → k ≤ length after
      → Gives (λ x. seen x (but_last k after)) (k ≡ length after) result (reading (but_last k before))

-- The count of failures after a call: one more where the reader failed, which ends the call.
abbrev pub failed_after : {X : Type 0} → Result X CertificateFault → ℕ → ℕ
failed_after (Err fault.ReadFault) n = one_more n
failed_after _ n = n

-- A field is a value and the bytes after it. No reader gives a number from 256 on.
abbrev pub byte_at : List ℕ → Result (ℕ × List ℕ) CertificateFault
byte_at [] = Err fault.Truncated
byte_at (b ∷ bytes) = if nat_lt b 256 then Ok (b, bytes) else Err fault.ReadFault

unfoldable pub number_at : List ℕ → Result (ℕ × List ℕ) CertificateFault
number_at bytes = do
  high ← byte_at bytes
  low ← byte_at high.1
  Ok (high.0 * 256 + low.0, low.1)

unfoldable pub small_at : (low high : ℕ) → List ℕ → Result (ℕ × List ℕ) CertificateFault
small_at low high bytes = do
  n ← byte_at bytes
  if nat_le low n.0 && nat_le n.0 high then Ok n else Err fault.BadField

unfoldable pub large_at : (low high : ℕ) → List ℕ → Result (ℕ × List ℕ) CertificateFault
large_at low high bytes = do
  n ← number_at bytes
  if nat_le low n.0 && nat_le n.0 high then Ok n else Err fault.BadField

abbrev pub number_then : ℕ → List ℕ → ℕ × List ℕ
number_then n rest = (n, rest)

-- The value, how many nodes were read with it, and the bytes after it.
abbrev pub Read : Type 0 → Type 0
Read A = A × ℕ × List ℕ

abbrev pub node_then : Tree × ℕ → List ℕ → Read BoundTree
node_then x rest = (bound_tree_of x.0, x.1, rest)

abbrev pub Reader : Type 0
Reader = ℕ → List ℕ → Result (Read BoundTree) CertificateFault

unfoldable pub row_at : Reader → ℕ → ℕ → List ℕ → Result (Read BoundTrees) CertificateFault
row_at child zero made bytes = Ok (none, made, bytes)
row_at child (suc n) made bytes = do
  first ← child made bytes
  others ← row_at child n first.1 first.2
  Ok (more first.0 others.0, others.1, others.2)

unfoldable pub overload_at : Reader
overload_at made bytes = do
  set ← large_at 1 greatest_set bytes
  Ok (overload set.0, made, set.1)

unfoldable pub split_at : Ranges → Reader → Reader
split_at ranges child made bytes = do
  class ← small_at 0 ranges.class bytes
  m ← large_at 1 ranges.m class.1
  below ← child made m.1
  above ← child below.1 below.2
  Ok (split class.0 m.0 below.0 above.0, above.1, above.2)

unfoldable pub cut_at : Ranges → Reader → Reader
cut_at ranges child made bytes = do
  set ← large_at 1 greatest_set bytes
  needed ← small_at 0 ranges.class set.1
  count ← large_at 2 ranges.children needed.1
  children ← row_at child count.0 made count.1
  Ok (cut set.0 needed.0 children.0, children.1, children.2)

unfoldable pub close_at : Reader → Reader
close_at child made bytes = do
  count ← small_at 1 2 bytes
  children ← row_at child count.0 made count.1
  Ok (close children.0, children.1, children.2)

unfoldable pub body_at : Ranges → Reader → ℕ → Reader
body_at ranges child tag made bytes =
    if tag == 0 then overload_at made bytes else
    if tag == 1 then split_at ranges child made bytes else
    if tag == 2 then cut_at ranges child made bytes else
    if tag == 3 then Ok (unexamined, made, bytes) else
    close_at child made bytes

unfoldable pub tagged_at : Ranges → Reader → Reader
tagged_at ranges child made bytes = do
  tag ← byte_at bytes
  if nat_lt ranges.tag tag.0 then Err fault.BadTag else body_at ranges child tag.0 (made + 1) tag.1

unfoldable pub node_at : Ranges → (depth : ℕ) → Reader
node_at ranges zero made bytes = Err fault.TooDeep
node_at ranges (suc depth) made bytes =
    if nat_lt made most_nodes then tagged_at ranges (node_at ranges depth) made bytes else Err fault.TooMany

unfoldable pub mark_at : ℕ → List ℕ → Result (List ℕ) CertificateFault
mark_at wanted bytes = do
  byte ← byte_at bytes
  if byte.0 == wanted then Ok byte.1 else Err fault.NotCertificate

-- The end by its byte in PCB2.
abbrev pub end_of : ℕ → End
end_of n = if n == 0 then ends.Open else ends.Closed

unfoldable pub version_at : List ℕ → Result (Ranges × End × List ℕ) CertificateFault
version_at bytes = do
  byte ← byte_at bytes
  if byte.0 == 0x31 then Ok (first_ranges, ends.Open, byte.1) else
      if byte.0 == 0x32 then (small_at 0 1 byte.1 >>= λ end. Ok (second_ranges, end_of end.0, end.1)) else
      if byte.0 == 0x34 then Ok (second_ranges, ends.Idle, byte.1) else Err fault.Version

unfoldable pub long_number_at : List ℕ → Result (ℕ × List ℕ) CertificateFault
long_number_at bytes = do
  high ← number_at bytes
  low ← number_at high.1
  Ok (high.0 * 65536 + low.0, low.1)

unfoldable pub batches_at : List ℕ → Result (ℕ × List ℕ) CertificateFault
batches_at bytes = do
  n ← long_number_at bytes
  if nat_le 1 n.0 then Ok n else Err fault.BadField

-- What stands at the end of the input.
unfoldable pub end_at : List ℕ → Result (Unit {0}) CertificateFault
end_at [] = Ok tt
end_at (b ∷ bytes) = Err fault.Trailing

-- A node that was read: how deep it may be, how many nodes were made before it and with it, and that these are not too many.
pub record IsNodeRead (depth made : ℕ) (tree : BoundTree) (reached : ℕ) : Type 0 where
  pub deep : depth_of tree ≤ depth
  pub counted : made + all_nodes tree ≡ reached
  pub few : reached ≤ most_nodes

-- The same of a node that is among those made before, where its children have this depth.
pub record IsBodyRead (depth made : ℕ) (tree : BoundTree) (reached : ℕ) : Type 0 where
  pub deep : depth_of tree ≤ depth + 1
  pub counted : made + all_nodes tree ≡ reached + 1
  pub few : reached ≤ most_nodes

-- The same of several nodes.
pub record IsRowRead (depth made : ℕ) (trees : BoundTrees) (reached : ℕ) : Type 0 where
  pub deep : deepest trees ≤ depth
  pub counted : made + all_nodes_in trees ≡ reached
  pub few : reached ≤ most_nodes

-- A certificate, and the bytes after it.
unfoldable pub certificate_at : List ℕ → Result (End × ℕ × BoundTree × List ℕ) CertificateFault
certificate_at bytes = do
  a ← mark_at 0x50 bytes
  b ← mark_at 0x43 a
  c ← mark_at 0x42 b
  version ← version_at c
  batches ← batches_at version.2
  tree ← node_at version.0 greatest_depth 0 batches.1
  Ok (version.1, batches.0, tree.0, tree.2)

-- A certificate, and nothing after it.
unfoldable pub all_of : List ℕ → Result (End × ℕ × BoundTree) CertificateFault
all_of bytes = do
  whole ← certificate_at bytes
  finished ← end_at whole.3
  Ok (whole.0, whole.1, whole.2)

-- The fault of a node before any byte of it, where so many levels are left and so many nodes were read.
abbrev pub IsEarly : (depth made : ℕ) → CertificateFault → Type 0
IsEarly depth made fault.TooDeep = depth ≡ 0
IsEarly depth made fault.TooMany = (1 ≤ depth) × (most_nodes ≤ made)
IsEarly depth made _ = ⊥

-- The bytes end where one is wanted, or with a certificate.
abbrev pub IsWanting : Result (End × ℕ × BoundTree × List ℕ) CertificateFault → Type 0
IsWanting (Ok x) = x.3 ≡ []
IsWanting (Err e) = e ≡ fault.Truncated
