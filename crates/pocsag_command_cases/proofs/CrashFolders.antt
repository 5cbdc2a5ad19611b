-- What a change does to a folder over memory.
use Rattle.pocsag_command_cases.proofs.Prelude.{◌≡◌, ◌≢◌, ◌⊎◌, inl, inr, ⊎_elim, ℕ, ◌+◌, ◌≤◌, Bool, true, false, List, [], ◌∷◌, ◌++◌, length, take, bytes_eq, Option, None, Some, option_map, if◌then◌else◌, string_bytes, sym, ◌∙◌, ap, subst, arith, refl, length-append, take-append-le, take_all, HaveOwnPaths, IsBack, IsGone, IsOnDisk, IsPut, IsSameBut, IsSameButTwo, IsStaged, Left, MayGo, MayMove, StepsBy, Stored, on_disk, place_of, staged_at, StagedFile, AreGone, ArePlaced, ArePlacesSame, AreTwo, FolderLeaves, FolderLeftSince, IsChanged, LeavesChanges, changed, folder_held, standing, stands_after, Change}
use Rattle.std.proofs.lemmas.Bool.{false_from_ne_true}
use Rattle.std.proofs.lemmas.Slice.Eq.{bytes_eq-Decides}
use Rattle.std.specs.List.{AllByRecursion}
use Rattle.pocsag_command_cases.proofs.Disks.{either_way}
use Rattle.pocsag_command_cases.specs.declared.crash_folder.CrashFolder.{CrashFolder}

stands_more : (changes : List Change) (change : Change) (before : Option (List ℕ)) (path : List ℕ) →
    stands_after before (changes ++ change ∷ []) path ≡ changed change path (stands_after before changes path)
stands_more [] change before path = refl
stands_more (first ∷ changes) change before path = stands_more changes change (changed first path before) path

eq_true : (one two : List ℕ) → one ≡ two → bytes_eq one two ≡ true
eq_true one two same = let decides = bytes_eq-Decides one two in decides.1 same

eq_false : (one two : List ℕ) → one ≢ two → bytes_eq one two ≡ false
eq_false one two differ = let decides = bytes_eq-Decides one two in false_from_ne_true (bytes_eq one two) (λ same. differ (decides.0 same))

-- *Makes*: what stands at each path once the file stands at `to`, and none at `gone`.
pub record Makes (gone to : List ℕ) (file : Option (List ℕ)) (was now : Left) : Type 0 where
  pub there : now to ≡ file
  pub taken : gone ≢ to → now gone ≡ None
  pub others : IsSameButTwo gone to was now

pub makes : (was now : List Change) (gone to : List ℕ) (file : Option (List ℕ)) → IsChanged was now gone to file →
    Makes gone to file (standing was) (standing now)
makes was now gone to file is =
    let change = is.change in
    let after : (path : List ℕ) → standing now path ≡ changed change path (standing was path) =
    λ path. ap (λ (l : List Change). standing l path) is.more ∙ stands_more was change None path in
    let file_of : Option (List ℕ) = option_map (λ bytes. bytes.items) change.file in
    let or_gone : (path : List ℕ) → Option (List ℕ) = λ path. if bytes_eq (string_bytes change.gone) path then None else standing was path in
    record {
      there = after to
          ∙ (ap (λ (b : Bool). if b then file_of else or_gone to) (eq_true (string_bytes change.to) to is.to_is) ∙ is.file_is);
      taken = λ differ. after gone
          ∙ (ap (λ (b : Bool). if b then file_of else or_gone gone)
          (eq_false (string_bytes change.to) gone (λ same. differ (sym same ∙ is.to_is)))
          ∙ ap (λ (b : Bool). if b then None else standing was gone) (eq_true (string_bytes change.gone) gone is.gone_is));
      others = λ other apart differ. after other
          ∙ (ap (λ (b : Bool). if b then file_of else or_gone other)
          (eq_false (string_bytes change.to) other (λ same. differ (sym same ∙ is.to_is)))
          ∙ ap (λ (b : Bool). if b then None else standing was other)
          (eq_false (string_bytes change.gone) other (λ same. apart (sym same ∙ is.gone_is))));
    }

-- after all changes a crash leaves what stands now
left_more : (was : List Change) (change : Change) (t : ℕ) (left : Left) → LeavesChanges (was ++ change ∷ []) t left →
    LeavesChanges was t left ⊎ ((path : List ℕ) → left path ≡ standing (was ++ change ∷ []) path)
left_more was change t left (n, least, is) = ⊎_elim
    (λ le. inl (n, least, λ path. is path ∙ ap (λ (l : List Change). standing l path) (take-append-le n was (change ∷ []) le)))
    (λ lt. inr (λ path. is path ∙ ap (λ (l : List Change). standing l path)
    (take_all n (was ++ change ∷ []) (omega (arith, lt, length-append was (change ∷ []))))))
    (either_way n (length was))

left_now : (changes : List Change) (settled : ℕ) → LeavesChanges changes settled (standing changes)
left_now changes settled = (
  settled + length changes,
  omega arith,
  λ path. ap (λ (l : List Change). standing l path) (sym (take_all (settled + length changes) changes (omega arith))),
)

-- A crash leaves nothing else where all changes are on the disk.
pub only_left : (changes : List Change) (settled : ℕ) → length changes ≤ settled → (left : Left) → LeavesChanges changes settled left →
    (path : List ℕ) → left path ≡ standing changes path
only_left changes settled all left (n, least, is) path =
    is path ∙ ap (λ (l : List Change). standing l path) (take_all n changes (omega (arith, all, least)))

-- No name is changed.
pub steps_same : (old new : CrashFolder) (Step : Left → Left → Type 0) → ((left : Left) → Step left left) →
    new.changes.items ≡ old.changes.items → old.settled ≤ new.settled →
    StepsBy (λ (folder : CrashFolder). folder.settled) FolderLeftSince FolderLeaves old new Step
steps_same old new Step stays same later =
    let earlier : (t : ℕ) (left : Left) → FolderLeftSince new t left → FolderLeftSince old t left =
    λ t left since. subst (λ (l : List Change). LeavesChanges l t left) same since in
    record {
      later = later;
      each = λ left since. (left, earlier old.settled left since, stays left);
      before = λ t left le since. inl (earlier t left since);
    }

-- A name is changed.
pub steps_changed : (old new : CrashFolder) (gone to : List ℕ) (file : Option (List ℕ)) (Step : Left → Left → Type 0) →
    ((left : Left) → Step left left) → IsChanged old.changes.items new.changes.items gone to file → new.settled ≡ old.settled →
    ((left : Left) → Makes gone to file (standing old.changes.items) left → Step (standing old.changes.items) left) →
    StepsBy (λ (folder : CrashFolder). folder.settled) FolderLeftSince FolderLeaves old new Step
steps_changed old new gone to file Step stays is same step =
    let made = makes old.changes.items new.changes.items gone to file is in
    let now : (left : Left) → ((path : List ℕ) → left path ≡ standing (old.changes.items ++ is.change ∷ []) path) →
    Makes gone to file (standing old.changes.items) left =
    λ left leaves. let here : (path : List ℕ) → left path ≡ standing new.changes.items path =
    λ path. leaves path ∙ ap (λ (l : List Change). standing l path) (sym is.more) in record {
      there = here to ∙ made.there;
      taken = λ differ. here gone ∙ made.taken differ;
      others = λ other apart differ. here other ∙ made.others other apart differ;
    } in
    let at : (t : ℕ) (left : Left) → FolderLeftSince new t left →
    FolderLeftSince old t left ⊎ ((was : Left) × FolderLeaves old was × Step was left) =
    λ t left since. ⊎_elim (λ earlier. inl earlier)
    (λ leaves. inr (standing old.changes.items, left_now old.changes.items old.settled, step left (now left leaves)))
    (left_more old.changes.items is.change t left (subst (λ (l : List Change). LeavesChanges l t left) is.more since)) in
    record {
      later = omega (arith, same);
      each = λ left since. ⊎_elim (λ earlier. (left, earlier, stays left)) (λ step. step) (at old.settled left since);
      before = λ t left le since. at t left since;
    }

bytes_of : Option Stored → Option (List ℕ)
bytes_of None = None
bytes_of (Some file) = Some file.bytes

bytes_on_disk : (bytes : Option (List ℕ)) → bytes_of (on_disk bytes) ≡ bytes
unfolding bytes_of
bytes_on_disk None = refl
bytes_on_disk (Some bytes) = refl

-- A file on the disk has one content.
pub one_file : (one two : Option (List ℕ)) → on_disk one ≡ on_disk two → one ≡ two
one_file one two same = sym (bytes_on_disk one) ∙ (ap bytes_of same ∙ bytes_on_disk two)

-- A crash leaves no more where nothing is changed.
pub leaves_same : (old new : CrashFolder) → new.changes.items ≡ old.changes.items → new.settled ≡ old.settled →
    (left : Left) → FolderLeaves new left → FolderLeaves old left
leaves_same old new same settled left (n, least, is) =
    (n, omega (arith, settled, least), λ path. is path ∙ ap (λ (l : List Change). standing (take n l) path) same)

-- Where nothing is done nothing else may be left.
pub may_stay : (from to : List ℕ) (file : Option Stored) (left : Left) → MayMove from to file left left
may_stay from to file left = record { others = λ other one two. refl; there = inl refl }

pub may_go_nowhere : (path : List ℕ) (left : Left) → MayGo path left left
may_go_nowhere path left = record { others = λ other differ. refl; there = inl refl }

-- Two files whose paths differ are made beside their places, the first one first.
module _ {files : List StagedFile} {one two : StagedFile} (are : AreTwo files one two) where
  pub own : HaveOwnPaths (one ∷ two ∷ [])
  own = subst HaveOwnPaths are.0 are.1

  module _ (was first made : CrashFolder) {path_one path_two : List ℕ} (is_one : path_one ≡ staged_at one) (is_two : path_two ≡ staged_at two)
      (one_made : IsSameBut path_one (standing was.changes.items) (standing first.changes.items))
      (two_made : IsSameBut path_two (standing first.changes.items) (standing made.changes.items)) where
    -- each is at no place
    at_no_place : ArePlacesSame one two was made
    at_no_place = (
      two_made (place_of one) (λ e. own.1.0.place.staged (e ∙ is_two)) ∙ one_made (place_of one) (λ e. own.0.place_staged (e ∙ is_one)),
      two_made (place_of two) (λ e. own.2.0.place_staged (e ∙ is_two)) ∙ one_made (place_of two) (λ e. own.1.0.staged.place (sym (e ∙ is_one))),
    )

    -- the older files are back
    pub both_back : (now : CrashFolder) → AllByRecursion (IsBack (folder_held now) (FolderLeaves now) (standing made.changes.items)) files →
        ArePlacesSame one two was now
    both_back now all =
        let back = subst (AllByRecursion (IsBack (folder_held now) (FolderLeaves now) (standing made.changes.items))) are.0 all in
        (one_file _ _ back.0.stands ∙ at_no_place.0, one_file _ _ back.1.0.stands ∙ at_no_place.1)

    -- both are put
    pub both_placed : (now : CrashFolder) (one_bytes two_bytes : List ℕ) → standing first.changes.items path_one ≡ Some one_bytes →
        standing made.changes.items path_two ≡ Some two_bytes →
        AllByRecursion (IsPut (folder_held now) (FolderLeaves now) (standing made.changes.items)) files → ArePlaced now one one_bytes two two_bytes
    both_placed now one_bytes two_bytes one_stands two_stands all =
        let put = subst (AllByRecursion (IsPut (folder_held now) (FolderLeaves now) (standing made.changes.items))) are.0 all in (
          subst (IsOnDisk (folder_held now) (FolderLeaves now) (place_of one)) (two_made (staged_at one) (λ e. own.1.0.staged.staged (e ∙ is_two))
              ∙ subst (λ (path : List ℕ). standing first.changes.items path ≡ Some one_bytes) is_one one_stands) put.0.place,
          subst (IsOnDisk (folder_held now) (FolderLeaves now) (place_of two))
              (subst (λ (path : List ℕ). standing made.changes.items path ≡ Some two_bytes) is_two two_stands) put.1.0.place,
        )

  module _ (made : CrashFolder) (safe : (left : Left) → FolderLeaves made left → (path : List ℕ) → left path ≡ standing made.changes.items path) where
    is_staged : (file : StagedFile) → IsStaged (folder_held made) (FolderLeaves made) (standing made.changes.items) file
    is_staged file = record { place = record { stands = refl; left = λ left leaves. safe left leaves (place_of file) }; staged = refl }

    pub both_staged : AllByRecursion (IsStaged (folder_held made) (FolderLeaves made) (standing made.changes.items)) files
    both_staged = rw are.0 (is_staged one, (is_staged two, tt))

  -- nothing is beside the places
  pub both_gone : (now : CrashFolder) → AllByRecursion (IsGone (folder_held now)) files → AreGone one two now
  both_gone now all = let gone = subst (AllByRecursion (IsGone (folder_held now))) are.0 all in (gone.0, gone.1.0)
