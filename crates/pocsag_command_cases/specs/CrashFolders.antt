-- What stands in a folder over memory, and what a crash might have left of it at each moment.
use Rattle.std.specs.Prelude.{◌≡◌, ℕ, ◌≤◌, List, [], ◌∷◌, ◌++◌, take, bytes_eq, Option, None, Some, option_map, if◌then◌else◌, string_bytes}
use Rattle.std.proofs.Math.Nat.{le_trans}
use Rattle.pocsag_shell.specs.Folders.{HaveOwnPaths, IsGone, IsOnDisk, Left, Stored, on_disk, place_of}
use Rattle.pocsag_shell.specs.declared.staged_file.StagedFile.{StagedFile}
use Rattle.pocsag_command_cases.specs.declared.crash_folder.Change.{Change}
use Rattle.pocsag_command_cases.specs.declared.crash_folder.CrashFolder.{CrashFolder}

-- What stands at a path after a change, if this stood there before it.
abbrev pub changed : Change → (path : List ℕ) → Option (List ℕ) → Option (List ℕ)
changed change path before =
    if bytes_eq (string_bytes change.to) path then option_map (λ bytes. bytes.items) change.file
    else (if bytes_eq (string_bytes change.gone) path then None else before)

-- What stands at a path after changes, if this stood there before them.
abbrev pub stands_after : Option (List ℕ) → List Change → (path : List ℕ) → Option (List ℕ)
stands_after before [] path = before
stands_after before (change ∷ changes) path = stands_after (changed change path before) changes path

-- What stands at a path of a folder that was empty before these changes.
abbrev pub standing : List Change → (path : List ℕ) → Option (List ℕ)
standing changes path = stands_after None changes path

-- What stands at a path, if one is given.
abbrev pub standing_at : List Change → (path : Option (List ℕ)) → Option (List ℕ)
standing_at changes None = None
standing_at changes (Some path) = standing changes path

-- One change more: this file stands at `to`, or none, and none at `gone`, unless that is the same path.
pub record IsChanged (was now : List Change) (gone to : List ℕ) (file : Option (List ℕ)) : Type 0 where
  pub change : Change
  pub more : now ≡ was ++ change ∷ []
  pub gone_is : string_bytes change.gone ≡ gone
  pub to_is : string_bytes change.to ≡ to
  pub file_is : option_map (λ bytes. bytes.items) change.file ≡ file

-- A crash leaves what stood after so many of the changes, or after more of them.
abbrev pub LeavesChanges : List Change → (settled : ℕ) → Left → Type 0
LeavesChanges changes settled left = (n : ℕ) × (settled ≤ n) × ((path : List ℕ) → left path ≡ standing (take n changes) path)

-- This moment is one of those since an earlier one.
pub counts_then : (changes : List Change) (t settled : ℕ) (left : Left) → t ≤ settled → LeavesChanges changes settled left → LeavesChanges changes t left
counts_then changes t settled left le (n, least, is) = (n, le_trans le least, is)

-- What contracts see of a folder. The number of a moment is how many changes are on the disk.
abbrev pub folder_held : CrashFolder → List ℕ → Option Stored
folder_held folder path = on_disk (standing folder.changes.items path)

abbrev pub FolderLeaves : CrashFolder → Left → Type 0
FolderLeaves folder left = LeavesChanges folder.changes.items folder.settled left

abbrev pub FolderLeftSince : CrashFolder → (t : ℕ) → Left → Type 0
FolderLeftSince folder t left = LeavesChanges folder.changes.items t left

-- A file stands at its place with these bytes, and no crash takes it away.
abbrev pub IsPlaced : CrashFolder → StagedFile → (bytes : List ℕ) → Type 0
IsPlaced folder file bytes = IsOnDisk (folder_held folder) (FolderLeaves folder) (place_of file) (Some bytes)

-- These are the two files, and all their paths differ.
abbrev pub AreTwo : List StagedFile → (one two : StagedFile) → Type 0
AreTwo files one two = (files ≡ one ∷ two ∷ []) × HaveOwnPaths files

-- Two files do.
abbrev pub ArePlaced : CrashFolder → (one : StagedFile) → (first : List ℕ) → (two : StagedFile) → (second : List ℕ) → Type 0
ArePlaced folder one first two second = IsPlaced folder one first × IsPlaced folder two second

-- At the places of two files stands what stood there.
abbrev pub ArePlacesSame : (one two : StagedFile) → (was now : CrashFolder) → Type 0
ArePlacesSame one two was now =
    (standing now.changes.items (place_of one) ≡ standing was.changes.items (place_of one))
    × (standing now.changes.items (place_of two) ≡ standing was.changes.items (place_of two))

-- Nothing stands beside the places of two files.
abbrev pub AreGone : (one two : StagedFile) → CrashFolder → Type 0
AreGone one two folder = IsGone (folder_held folder) one × IsGone (folder_held folder) two
