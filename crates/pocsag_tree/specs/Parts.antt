-- The first fault from the left of the bytes of a certificate (this project's own).
--
-- At each place of a certificate a list of parts is wanted. A part is a number of one, two or four
-- bytes; what it may be, and which further parts it asks for, is the table `judged`.
use Rattle.std.specs.Prelude.{◌≡◌, ℕ, ◌+◌, ◌<◌, ◌≤◌, ◌==◌, ◌&&◌, nat_lt, nat_le, if◌then◌else◌, List, [], ◌∷◌, ◌++◌, length, take, drop, replicate, Option, Some, None, Result, Ok, Err}
use Rattle.std.specs.Int.{Width, w8, w16, w32, byte_len, from_be_bytes}
use Rattle.pocsag_tree.specs.declared.limits.Ranges.{Ranges}
use Rattle.pocsag_tree.specs.Limits.{first_ranges, second_ranges, greatest_depth, greatest_set, most_batches, most_nodes}
use Rattle.pocsag_tree.specs.declared.refusals.CertificateFault.{CertificateFault}
use Rattle.pocsag_tree.specs.declared.refusals.CertificateFault.TheVariants as fault

-- What may be wanted at a place.
pub data Part : Type 0 where
  mark : (byte : ℕ) → Part  -- this very byte, of the first three
  version : Part  -- the byte of a version
  field : (width : Width) → (low high : ℕ) → Part  -- a number in this range
  children : Ranges → (depth : ℕ) → (width : Width) → (low high : ℕ) → Part  -- such a number, and so many nodes at this depth
  node : Ranges → (depth : ℕ) → Part  -- the tag of a node at this depth, and what the node asks for

-- How many bytes the number of a part has.
abbrev pub width_of : Part → Width
width_of (mark byte) = w8
width_of version = w8
width_of (field width low high) = width
width_of (children r depth width low high) = width
width_of (node r depth) = w8

-- What a node asks for behind its tag, its children at the given depth.
abbrev pub asked_by : Ranges → (depth tag : ℕ) → List Part
asked_by r depth tag =
    if tag == 0 then field w16 1 greatest_set ∷ [] else
    if tag == 1 then field w8 0 r.class ∷ field w16 1 r.m ∷ node r depth ∷ node r depth ∷ [] else
    if tag == 2 then field w16 1 greatest_set ∷ field w8 0 r.class ∷ children r depth w16 2 r.children ∷ [] else
    if tag == 3 then [] else
    children r depth w8 1 2 ∷ []

-- What the number at a part's place asks for, or the fault that it is.
abbrev pub judged : Part → ℕ → Result (List Part) CertificateFault
judged (mark byte) n = if n == byte then Ok [] else Err fault.NotCertificate
judged version n =
    if n == 0x31 then Ok (field w32 1 most_batches ∷ node first_ranges 1 ∷ []) else
    if n == 0x32 then Ok (field w8 0 1 ∷ field w32 1 most_batches ∷ node second_ranges 1 ∷ []) else
    if n == 0x34 then Ok (field w32 1 most_batches ∷ node second_ranges 1 ∷ []) else
    Err fault.Version
judged (field width low high) n = if nat_le low n && nat_le n high then Ok [] else Err fault.BadField
judged (children r depth width low high) n = if nat_le low n && nat_le n high then Ok (replicate n (node r depth)) else Err fault.BadField
judged (node r depth) tag = if nat_lt r.tag tag then Err fault.BadTag else Ok (asked_by r (depth + 1) tag)

-- The fault of a part before any byte of it is read, where so many nodes were read before.
abbrev pub early_fault : Part → (nodes : ℕ) → Option CertificateFault
early_fault (node r depth) nodes =
    if nat_lt greatest_depth depth then Some fault.TooDeep else
    if nat_lt nodes most_nodes then None else Some fault.TooMany
early_fault _ nodes = None

-- How many nodes were read, with this part.
abbrev pub nodes_with : Part → (nodes : ℕ) → ℕ
nodes_with (node r depth) nodes = nodes + 1
nodes_with _ nodes = nodes

-- The number at a part's place, high byte first.
abbrev pub number_of : Part → List ℕ → ℕ
number_of part bytes = from_be_bytes (width_of part) (take (byte_len (width_of part)) bytes)

-- Where these parts are wanted, and so many nodes were read before, what is met first in the bytes from
-- left to right is this fault, or none up to the end.
pub data Meets : (parts : List Part) → (nodes : ℕ) → (bytes : List ℕ) → (verdict : Option CertificateFault) → Type 0 where
  -- Nothing is wanted, and nothing is there.
  whole : {nodes : ℕ} → Meets [] nodes [] None
  -- Nothing is wanted, and a byte is there.
  trailing : {nodes b : ℕ} {bytes : List ℕ} → Meets [] nodes (b ∷ bytes) (Some fault.Trailing)
  -- A node is too deep, or one too many, whatever its bytes.
  early : {nodes : ℕ} {part : Part} {parts : List Part} {bytes : List ℕ} {f : CertificateFault}
      → early_fault part nodes ≡ Some f → Meets (part ∷ parts) nodes bytes (Some f)
  -- The end comes before the last byte of a part.
  short : {nodes : ℕ} {part : Part} {parts : List Part} {bytes : List ℕ}
      → early_fault part nodes ≡ None → length bytes < byte_len (width_of part) → Meets (part ∷ parts) nodes bytes (Some fault.Truncated)
  -- All the bytes of a part are there, and they are a fault.
  wrong : {nodes : ℕ} {part : Part} {parts : List Part} {bytes : List ℕ} {f : CertificateFault}
      → early_fault part nodes ≡ None → byte_len (width_of part) ≤ length bytes → judged part (number_of part bytes) ≡ Err f
      → Meets (part ∷ parts) nodes bytes (Some f)
  -- A part is right: what it asks for is wanted next, and then the other parts.
  right : {nodes : ℕ} {part : Part} {asked parts : List Part} {bytes : List ℕ} {verdict : Option CertificateFault}
      → early_fault part nodes ≡ None → byte_len (width_of part) ≤ length bytes → judged part (number_of part bytes) ≡ Ok asked
      → Meets (asked ++ parts) (nodes_with part nodes) (drop (byte_len (width_of part)) bytes) verdict
      → Meets (part ∷ parts) nodes bytes verdict

-- The parts of a certificate: its mark and its version, which asks for the rest.
abbrev pub certificate : List Part
certificate = mark 0x50 ∷ mark 0x43 ∷ mark 0x42 ∷ version ∷ []

-- The first fault of the bytes, read as a certificate from left to right.
abbrev pub HasFirst : CertificateFault → List ℕ → Type 0
HasFirst f bytes = Meets certificate 0 bytes (Some f)
