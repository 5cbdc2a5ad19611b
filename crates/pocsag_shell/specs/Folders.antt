-- What stands at the names of folders, what a crash may leave of it, and how files are put at their places (this project's own).
use Rattle.std.specs.Prelude.{◌≡◌, ◌≢◌, ◌⊎◌, ℕ, ◌≤◌, Bool, true, List, [], ◌∷◌, take, drop, Option, Some, None, Result, IfErr, OnErr, OnOk, string_bytes}
use Rattle.std.specs.List.{AllByRecursion}
use Rattle.pocsag_words.specs.Devices.{one_more}
use Rattle.pocsag_shell.specs.declared.fault.FileFault.{FileFault}
use Rattle.pocsag_shell.specs.declared.staged_file.StagedFile.{StagedFile}

-- A file: its bytes, and whether all of them are on the disk.
pub record Stored : Type 0 where
  pub bytes : List ℕ
  pub is_synced : Bool

-- A file with these bytes that is on the disk, or none.
abbrev pub on_disk : Option (List ℕ) → Option Stored
on_disk None = None
on_disk (Some b) = Some (record { bytes = b; is_synced = true })

-- What a crash leaves: the bytes at each path, if a file stands there.
abbrev pub Left : Type 0
Left = List ℕ → Option (List ℕ)

-- *At any moment*: what a crash at a moment from `old` to `new` leaves comes by this step from what one at `old` might have left.
pub record StepsBy {F : Type 0} (moment : F → ℕ) (left_since : F → ℕ → Left → Type 0) (may_leave : F → Left → Type 0)
    (old new : F) (Step : Left → Left → Type 0) : Type 0 where
  pub later : moment old ≤ moment new
  pub each : (left : Left) → left_since new (moment old) left → (was : Left) × may_leave old was × Step was left
  -- for what began earlier
  pub before : (t : ℕ) (left : Left) → t ≤ moment old → left_since new t left →
      left_since old t left ⊎ ((was : Left) × may_leave old was × Step was left)

-- A crash leaves what it might have left before.
abbrev pub IsSame : (was left : Left) → Type 0
IsSame was left = (path : List ℕ) → left path ≡ was path

-- All paths but this one keep what they had.
abbrev pub IsSameBut : {X : Type 0} → (path : List ℕ) → (was now : List ℕ → X) → Type 0
IsSameBut path was now = (other : List ℕ) → other ≢ path → now other ≡ was other

-- All paths but these two keep what they had.
abbrev pub IsSameButTwo : {X : Type 0} → (one two : List ℕ) → (was now : List ℕ → X) → Type 0
IsSameButTwo one two was now = (other : List ℕ) → other ≢ one → other ≢ two → now other ≡ was other

-- What a crash leaves where a file is being renamed: at the new path the file if it is on the disk, or what it might have left there.
pub record MayMove (from to : List ℕ) (file : Option Stored) (was left : Left) : Type 0 where
  pub others : IsSameButTwo from to was left
  pub there : (left to ≡ was to) ⊎ ((bytes : Option (List ℕ)) → file ≡ on_disk bytes → left to ≡ bytes)

-- What a crash leaves where a name is being removed.
pub record MayGo (path : List ℕ) (was left : Left) : Type 0 where
  pub others : IsSameBut path was left
  pub there : (left path ≡ was path) ⊎ (left path ≡ None)

-- The place of a file; the path beside it, where it is made; and the path where the older file of the place is kept.
abbrev pub place_of : StagedFile → List ℕ
place_of file = string_bytes file.place

abbrev pub staged_at : StagedFile → List ℕ
staged_at file = string_bytes file.path

abbrev pub kept_at : StagedFile → List ℕ
kept_at file = string_bytes file.kept

-- The path is none of the three of a file.
pub record IsNoPathOf (path : List ℕ) (file : StagedFile) : Type 0 where
  pub place : path ≢ place_of file
  pub staged : path ≢ staged_at file
  pub kept : path ≢ kept_at file

-- The three paths of a file differ.
pub record IsDistinct (file : StagedFile) : Type 0 where
  pub place_staged : place_of file ≢ staged_at file
  pub place_kept : place_of file ≢ kept_at file
  pub staged_kept : staged_at file ≢ kept_at file

-- Each path of a file is none of the paths of another one.
pub record ShareNoPath (file other : StagedFile) : Type 0 where
  pub place : IsNoPathOf (place_of file) other
  pub staged : IsNoPathOf (staged_at file) other
  pub kept : IsNoPathOf (kept_at file) other

-- All the paths of the files differ.
abbrev pub HaveOwnPaths : List StagedFile → Type 0
HaveOwnPaths [] = Unit {0}
HaveOwnPaths (file ∷ files) = IsDistinct file × AllByRecursion (ShareNoPath file) files × HaveOwnPaths files

-- What stands at a path is on the disk, its bytes and its name: no crash leaves anything else there.
pub record IsOnDisk (held : List ℕ → Option Stored) (may_leave : Left → Type 0) (path : List ℕ) (bytes : Option (List ℕ)) : Type 0 where
  pub stands : held path ≡ on_disk bytes
  pub left : (left : Left) → may_leave left → left path ≡ bytes

-- The file at a place is on the disk, and that beside it has its bytes there.
pub record IsStaged (held : List ℕ → Option Stored) (may_leave : Left → Type 0) (bytes : List ℕ → Option (List ℕ)) (file : StagedFile) : Type 0 where
  pub place : IsOnDisk held may_leave (place_of file) (bytes (place_of file))
  pub staged : held (staged_at file) ≡ on_disk (bytes (staged_at file))

-- At the place is the file that stood beside it, and no crash takes it away; beside it is none.
pub record IsPut (held : List ℕ → Option Stored) (may_leave : Left → Type 0) (bytes : List ℕ → Option (List ℕ)) (file : StagedFile) : Type 0 where
  pub place : IsOnDisk held may_leave (place_of file) (bytes (staged_at file))
  pub gone : held (staged_at file) ≡ None

-- No second name of an older file is left.
abbrev pub KeepsNone : (held : List ℕ → Option Stored) → StagedFile → Type 0
KeepsNone held file = held (kept_at file) ≡ None

-- *Gone*: nothing stands beside the place, neither a file that is still to be put there nor the second name of the older one.
pub record IsGone (held : List ℕ → Option Stored) (file : StagedFile) : Type 0 where
  pub staged : held (staged_at file) ≡ None
  pub kept : KeepsNone held file

-- *Beside*: of the first files, so many of them, nothing stands any more where they were made; the others still stand there.
pub record StandBeside (files : List StagedFile) (was now : List ℕ → Option Stored) : Type 0 where
  pub count : ℕ
  pub first : AllByRecursion (λ file. now (staged_at file) ≡ None) (take count files)
  pub others : AllByRecursion (λ file. now (staged_at file) ≡ was (staged_at file)) (drop count files)

-- All paths but those where the older files are kept have what they had.
abbrev pub IsSameButKept : {X : Type 0} → (files : List StagedFile) → (was now : List ℕ → X) → Type 0
IsSameButKept files was now = (path : List ℕ) → AllByRecursion (λ file. path ≢ kept_at file) files → now path ≡ was path

-- At the place is what stood there before, and no crash takes it away.
abbrev pub IsBack : (held : List ℕ → Option Stored) → (may_leave : Left → Type 0) → (bytes : List ℕ → Option (List ℕ)) → StagedFile → Type 0
IsBack held may_leave bytes file = IsOnDisk held may_leave (place_of file) (bytes (place_of file))

-- *In order*: the files at the first places, so many of them, are the new ones, and at the other places is what stood there before.
pub record IsInOrder (files : List StagedFile) (bytes : List ℕ → Option (List ℕ)) (left : Left) : Type 0 where
  pub count : ℕ
  pub first : AllByRecursion (λ file. left (place_of file) ≡ bytes (staged_at file)) (take count files)
  pub others : AllByRecursion (λ file. left (place_of file) ≡ bytes (place_of file)) (drop count files)

-- What a crash leaves where a file is being put at its place.
pub record MayPut (file : StagedFile) (bytes : List ℕ → Option (List ℕ)) (was left : Left) : Type 0 where
  pub others : (path : List ℕ) → IsNoPathOf path file → left path ≡ was path
  pub there : (left (place_of file) ≡ bytes (place_of file)) ⊎ (left (place_of file) ≡ bytes (staged_at file))

-- What a crash leaves where files are being put at their places.
pub record MayPutAll (files : List StagedFile) (bytes : List ℕ → Option (List ℕ)) (was left : Left) : Type 0 where
  pub others : (path : List ℕ) → AllByRecursion (IsNoPathOf path) files → left path ≡ was path
  pub order : IsInOrder files bytes left

-- Where the call returns, no call of the folder failed; where it does not, one did.
abbrev pub CountsCalls : {X E : Type 0} → Result X E → (before after : ℕ) → Type 0
CountsCalls result before after = OnOk result (after ≡ before) × OnErr result (after ≡ one_more before)

-- The fault of the first call that failed stays.
abbrev pub KeepsFault : (before after : Option FileFault) → Type 0
KeepsFault before after = (first : FileFault) → before ≡ Some first → after ≡ Some first

-- *Notes*: where the call returns, the fault of the first call that failed is what it was, also if there is none; where it does not,
-- its own fault is the first one if there was none, and an earlier one stays.
abbrev pub NotesFault : {X : Type 0} → Result X FileFault → (before after : Option FileFault) → Type 0
NotesFault result before after =
    OnOk result (after ≡ before) × IfErr result (λ fault. before ≡ None → after ≡ Some fault) × KeepsFault before after

-- Two calls failed between these two counts, and no other.
abbrev pub FailsTwice : (before after : ℕ) → Type 0
FailsTwice before after = after ≡ one_more (one_more before)
