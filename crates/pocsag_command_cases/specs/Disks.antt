-- What a disk over memory holds, and what a crash might have left of it at each moment.
use Rattle.std.proofs.Common.{◌≡◌, ◌⊎◌, inl, inr, ℕ, ◌+◌, ◌-◌, ◌≤◌, List, [], ◌∷◌, ◌++◌, length, take, subst, refl}
use Rattle.std.proofs.Math.Arith.{add-le_cancel_left}
use Rattle.std.proofs.Math.Nat.{add-le-add, le-add_right, le_refl, le_trans, not-le_of_lt}
use Rattle.std.proofs.Math.Numerals.{lt-add-one}
use Rattle.pocsag_command_cases.specs.declared.crash_disk.CrashDisk.{CrashDisk}
use Rattle.pocsag_command_cases.specs.declared.crash_disk.Text.{Text}

-- How many bytes the lines of a text have.
abbrev pub lines_length : Text → ℕ
lines_length text = length text.lines.items

-- All bytes of a text.
abbrev pub text_bytes : Text → List ℕ
text_bytes text = text.begun.items ++ text.lines.items

-- The text, with so many bytes of its lines.
abbrev pub text_front : Text → ℕ → List ℕ
text_front text n = text.begun.items ++ take n text.lines.items

-- A crash leaves of a text what was put there at once, and so many bytes of its lines or more.
abbrev pub LeavesFrom : Text → (synced : ℕ) → List ℕ → Type 0
LeavesFrom text synced left = (n : ℕ) × (synced ≤ n) × (left ≡ text_front text n)

-- The number of the moment at which this text was there after those past ones, and so many bytes of its lines: each text
-- had a moment for each byte of its lines, and one without them.
unfoldable pub moment_after : List Text → ℕ → ℕ
moment_after [] n = n
moment_after (text ∷ past) n = lines_length text + 1 + moment_after past n

-- This might have been left at that moment.
unfoldable pub LeftAt : (past : List Text) → (now : Text) → (m : ℕ) → List ℕ → Type 0
LeftAt [] now m left = left ≡ text_front now m
LeftAt (text ∷ past) now m left = ((m ≤ lines_length text) × (left ≡ text_front text m))
    ⊎ ((k : ℕ) × (m ≡ lines_length text + 1 + k) × LeftAt past now k left)

-- It might have been left at some moment from that one on.
abbrev pub LeftSince : (past : List Text) → (now : Text) → (t : ℕ) → List ℕ → Type 0
LeftSince past now t left = (m : ℕ) × (t ≤ m) × LeftAt past now m left

left_now : (past : List Text) (now : Text) (n : ℕ) (left : List ℕ) → left ≡ text_front now n → LeftAt past now (moment_after past n) left
unfolding LeftAt moment_after
left_now [] now n left is = is
left_now (text ∷ past) now n left is = inr (moment_after past n, refl, left_now past now n left is)

moment_grows : (past : List Text) (n m : ℕ) → n ≤ m → moment_after past n ≤ moment_after past m
unfolding moment_after
moment_grows [] n m le = le
moment_grows (text ∷ past) n m le = add-le-add (le_refl (lines_length text + 1)) (moment_grows past n m le)

-- this moment is one of those since an earlier one
pub counts_now : (past : List Text) (now : Text) (synced t : ℕ) (left : List ℕ) → t ≤ moment_after past synced →
    LeavesFrom now synced left → LeftSince past now t left
counts_now past now synced t left le (n, least, is) =
    (moment_after past n, le_trans le (moment_grows past synced n least), left_now past now n left is)

left_at_last : (past : List Text) (now : Text) (synced m : ℕ) (left : List ℕ) → moment_after past synced ≤ m → LeftAt past now m left →
    LeavesFrom now synced left
unfolding LeftAt moment_after
left_at_last [] now synced m left le at = (m, le, at)
left_at_last (text ∷ past) now synced m left le (inl (within, is)) =
    absurd (not-le_of_lt (lt-add-one (lines_length text))
    (le_trans (le_trans (le-add_right (lines_length text + 1) (moment_after past synced)) le) within))
left_at_last (text ∷ past) now synced m left le (inr (k, sum, at)) =
    left_at_last past now synced k left (add-le_cancel_left (lines_length text + 1) (subst (λ (m : ℕ). moment_after (text ∷ past) synced ≤ m) sum le)) at

-- since this moment there is no other
pub only_now : (past : List Text) (now : Text) (synced : ℕ) (left : List ℕ) → LeftSince past now (moment_after past synced) left →
    LeavesFrom now synced left
only_now past now synced left (m, le, at) = left_at_last past now synced m left le at

-- What contracts see of a disk.
abbrev pub disk_bytes : CrashDisk → List ℕ
disk_bytes disk = text_bytes disk.text

abbrev pub disk_synced : CrashDisk → ℕ
disk_synced disk = lines_length disk.text - disk.unsynced

abbrev pub disk_moment : CrashDisk → ℕ
disk_moment disk = moment_after disk.past.items (disk_synced disk)

abbrev pub DiskLeaves : CrashDisk → List ℕ → Type 0
DiskLeaves disk left = LeavesFrom disk.text (disk_synced disk) left

abbrev pub DiskLeftSince : CrashDisk → ℕ → List ℕ → Type 0
DiskLeftSince disk t left = LeftSince disk.past.items disk.text t left
