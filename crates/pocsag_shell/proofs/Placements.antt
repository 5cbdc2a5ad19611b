-- Files that are put at their places one behind the other.
use Rattle.pocsag_shell.proofs.Prelude.{◌≡◌, ◌≢◌, inl, inr, ◌⊎◌, ⊎_elim, ℕ, ◌≤◌, ◌-◌, List, [], ◌∷◌, Option, None, suc, zero, take, drop, length, slice_index_or, Bool, IsFalse, arith, refl, sym, ap, subst, ◌∙◌, HasFailed, take_rest, Ghosts, StagedFile, HaveOwnPaths, ShareNoPath, IsDistinct, IsGone, IsNoPathOf, IsBack, IsPut, IsStaged, IsSameButKept, IsSameButTwo, KeepsNone, IsOnDisk, Left, MayGo, MayMove, MayPut, MayPutAll, StandBeside, Stored, kept_at, place_of, staged_at, on_disk}
use Rattle.std.specs.List.{AllByRecursion}
use Rattle.pocsag_shell.proofs.Folders.{Steps, call_more, renamed, still_on_disk}

all_by : {X : Type 0} {P Q : X → Type 0} → ((x : X) → P x → Q x) → (xs : List X) → AllByRecursion P xs → AllByRecursion Q xs
all_by f [] h = tt
all_by f (x ∷ xs) h = (f x h.0, all_by f xs h.1)

all_with : {X : Type 0} {P Q R : X → Type 0} → ((x : X) → P x → Q x → R x) → (xs : List X) → AllByRecursion P xs → AllByRecursion Q xs → AllByRecursion R xs
all_with f [] h k = tt
all_with f (x ∷ xs) h k = (f x h.0 k.0, all_with f xs h.1 k.1)

all_parts : {X : Type 0} (P : X → Type 0) (n : ℕ) (xs : List X) → AllByRecursion P xs → AllByRecursion P (take n xs) × AllByRecursion P (drop n xs)
all_parts P zero xs h = (tt, h)
all_parts P (suc n) [] h = (tt, tt)
all_parts P (suc n) (x ∷ xs) h = let parts = all_parts P n xs h.1 in ((h.0, parts.0), parts.1)

-- the paths of a later file are none of an earlier one's
turned : {file other : StagedFile} → ShareNoPath file other → ShareNoPath other file
turned apart = record {
  place = record { place = λ e. apart.place.place (sym e); staged = λ e. apart.staged.place (sym e); kept = λ e. apart.kept.place (sym e) };
  staged = record { place = λ e. apart.place.staged (sym e); staged = λ e. apart.staged.staged (sym e); kept = λ e. apart.kept.staged (sym e) };
  kept = record { place = λ e. apart.place.kept (sym e); staged = λ e. apart.staged.kept (sym e); kept = λ e. apart.kept.kept (sym e) };
}

-- a list from its first and the others
pub split : (files : List StagedFile) (file : StagedFile) → 1 ≤ length files → file ≡ slice_index_or files 0 file →
    files ≡ file ∷ take (length files - 1) (drop 1 files)
split [] file le is = absurd (omega (arith, le))
split (first ∷ rest) file le is =
    let others : take (length (first ∷ rest) - 1) (drop 1 (first ∷ rest)) ≡ rest = take_rest (first ∷ rest) 1 in
    ap (λ (x : StagedFile). x ∷ rest) (sym is) ∙ ap (λ (xs : List StagedFile). file ∷ xs) (sym others)

-- the files that still stand beside their places
beside_on : {was first now last : List ℕ → Option Stored} (files : List StagedFile) →
    AllByRecursion (λ file. (first (staged_at file) ≡ was (staged_at file)) × (last (staged_at file) ≡ now (staged_at file))) files →
    StandBeside files first now → StandBeside files was last
beside_on {was} {first} {now} {last} files same is =
    let parts = all_parts (λ file. (first (staged_at file) ≡ was (staged_at file)) × (last (staged_at file) ≡ now (staged_at file))) is.count files same in
    record {
      count = is.count;
      first = all_with (λ file one none. one.1 ∙ none) (take is.count files) parts.0 is.first;
      others = all_with (λ file one at. one.1 ∙ (at ∙ one.0)) (drop is.count files) parts.1 is.others;
    }

-- the first of the files, whose paths all differ, and the others
module _ {files : List StagedFile} {file : StagedFile} {others : List StagedFile} (is : files ≡ file ∷ others) (own : HaveOwnPaths files) where
  apart : HaveOwnPaths (file ∷ others)
  apart = subst HaveOwnPaths is own

  -- the first file was renamed
  pub beside_rest : {was first now last : List ℕ → Option Stored} → (IsDistinct file → first (staged_at file) ≡ None) →
      ((path : List ℕ) → IsNoPathOf path file → first path ≡ was path) → ((path : List ℕ) → AllByRecursion (IsNoPathOf path) others → now path ≡ first path) →
      IsSameButTwo (kept_at file) (place_of file) now last → (HaveOwnPaths others → StandBeside others first now) → StandBeside files was last
  beside_rest {was = was} {last = last} taken before rest after beside =
      let more = beside_on {was = was} {last = last} others (all_by (λ other two. (
        before (staged_at other) (turned two).staged,
        after (staged_at other) ((turned two).staged).kept ((turned two).staged).place,
      )) others apart.1) (beside apart.2) in
      rw is (record {
        count = suc more.count;
        first = (
          after (staged_at file) (apart.0).staged_kept (λ e. (apart.0).place_staged (sym e))
              ∙ (rest (staged_at file) (all_by (λ other two. two.staged) others apart.1) ∙ taken apart.0),
          more.first,
        );
        others = more.others;
      })

  -- the first file may have been renamed
  pub beside_first : {was now : List ℕ → Option Stored} → ((path : List ℕ) → IsNoPathOf path file → now path ≡ was path) →
      (IsDistinct file → (now (staged_at file) ≡ None) ⊎ (now (staged_at file) ≡ was (staged_at file))) → StandBeside files was now
  beside_first {was} {now} same one =
      let rest : AllByRecursion (λ other. now (staged_at other) ≡ was (staged_at other)) others =
      all_by (λ other two. same (staged_at other) (turned two).staged) others apart.1 in
      rw is (⊎_elim (λ none. record { count = 1; first = (none, tt); others = rest })
      (λ still. record { count = 0; first = tt; others = (still, rest) }) (one apart.0))

  module _ {F : Type 0} (folder : Ghosts F) (is_known : folder.is_known) (bytes : List ℕ → Option (List ℕ)) {old first : F}
      (ready_files : AllByRecursion (IsStaged (folder.held old) (folder.may_leave old) bytes) files)
      (same : (path : List ℕ) → IsNoPathOf path file → folder.held first path ≡ folder.held old path)
      (one : IsDistinct file → IsStaged (folder.held old) (folder.may_leave old) bytes file → Steps folder old first (MayPut file bytes)) where
    ready : AllByRecursion (IsStaged (folder.held old) (folder.may_leave old) bytes) (file ∷ others)
    ready = subst (AllByRecursion (IsStaged (folder.held old) (folder.may_leave old) bytes)) is ready_files

    step : Steps folder old first (MayPut file bytes)
    step = one apart.0 ready.0

    ready_others : AllByRecursion (IsStaged (folder.held first) (folder.may_leave first) bytes) others
    ready_others = all_with (λ other two r. record {
      place = still_on_disk folder is_known step r.place (same (place_of other) (turned two).place)
          (λ was left put. put.others (place_of other) (turned two).place);
      staged = same (staged_at other) (turned two).staged ∙ r.staged;
    }) others apart.1 ready.1

    pub back_first : (IsDistinct file → IsStaged (folder.held old) (folder.may_leave old) bytes file → IsBack (folder.held first) (folder.may_leave first) bytes file) →
        AllByRecursion (IsBack (folder.held first) (folder.may_leave first) bytes) files
    back_first back = rw is (back apart.0 ready.0, all_by (λ other r. r.place) others ready_others)

    -- the first file is being put, or was
    first_may : (was left : Left) → folder.may_leave old was → MayPut file bytes was left → MayPutAll (file ∷ others) bytes was left
    first_may was left may put =
        let rest : AllByRecursion (λ other. left (place_of other) ≡ bytes (place_of other)) others =
        all_with (λ other two r. put.others (place_of other) (turned two).place ∙ r.place.left was may) others apart.1 ready.1 in
        record {
          others = λ path off. put.others path off.0;
          order = ⊎_elim (λ older. record { count = 0; first = tt; others = (older, rest) })
              (λ newer. record { count = 1; first = (newer, tt); others = rest }) put.there;
        }

    pub first_step : Steps folder old first (MayPutAll files bytes)
    first_step = rw is (renamed folder.moment folder.left_since folder.may_leave step first_may)

    module _ {rest : F}
        (put : IsDistinct file → IsStaged (folder.held old) (folder.may_leave old) bytes file → IsPut (folder.held first) (folder.may_leave first) bytes file)
        (keeps : (path : List ℕ) → AllByRecursion (IsNoPathOf path) others → folder.held rest path ≡ folder.held first path)
        (more : HaveOwnPaths others → AllByRecursion (IsStaged (folder.held first) (folder.may_leave first) bytes) others → Steps folder first rest (MayPutAll others bytes)) where
      places : AllByRecursion (IsNoPathOf (place_of file)) others
      places = all_by (λ other two. two.place) others apart.1

      -- the first file stays where it was put
      stays : IsOnDisk (folder.held rest) (folder.may_leave rest) (place_of file) (bytes (staged_at file))
      stays = still_on_disk folder is_known (more apart.2 ready_others) (put apart.0 ready.0).place (keeps (place_of file) places)
          (λ was left all. all.others (place_of file) places)

      -- the first file is put, and the others are being put
      rest_all : Steps folder old rest (MayPutAll (file ∷ others) bytes)
      rest_all = call_more folder is_known step (more apart.2 ready_others) first_may (λ was between left may mid now all. record {
        others = λ path off. all.others path off.1 ∙ now.others path off.0;
        order = record {
          count = suc all.order.count;
          first = (all.others (place_of file) places ∙ (put apart.0 ready.0).place.left between mid, all.order.first);
          others = all.order.others;
        };
      })

      pub rest_step : Steps folder old rest (MayPutAll files bytes)
      rest_step = rw is rest_all

      pub put_last : (HaveOwnPaths others → AllByRecursion (IsStaged (folder.held first) (folder.may_leave first) bytes) others →
          AllByRecursion (IsPut (folder.held rest) (folder.may_leave rest) bytes) others) → AllByRecursion (IsPut (folder.held rest) (folder.may_leave rest) bytes) files
      put_last puts = rw is (
        record { place = stays; gone = keeps (staged_at file) (all_by (λ other two. two.staged) others apart.1) ∙ (put apart.0 ready.0).gone },
        puts apart.2 ready_others,
      )

      -- the others are back, and the older file of the first one comes back
      module _ {last : F} {stood : Bool}
          (older : IsDistinct file → IsStaged (folder.held old) (folder.may_leave old) bytes file → folder.held first (kept_at file) ≡ on_disk (bytes (place_of file)))
          (none : IsDistinct file → IsStaged (folder.held old) (folder.may_leave old) bytes file → IsFalse stood → bytes (place_of file) ≡ None)
          (backs : HaveOwnPaths others → AllByRecursion (IsStaged (folder.held first) (folder.may_leave first) bytes) others →
          AllByRecursion (IsBack (folder.held rest) (folder.may_leave rest) bytes) others)
          (move : (IsFalse stood → folder.held rest (kept_at file) ≡ None) →
          Steps folder rest last (MayMove (kept_at file) (place_of file) (folder.held rest (kept_at file)))) where
        kept_is : folder.held rest (kept_at file) ≡ on_disk (bytes (place_of file))
        kept_is = keeps (kept_at file) (all_by (λ other two. two.kept) others apart.1) ∙ older apart.0 ready.0

        moving : Steps folder rest last (MayMove (kept_at file) (place_of file) (folder.held rest (kept_at file)))
        moving = move (λ gone. kept_is ∙ ap on_disk (none apart.0 ready.0 gone))

        pub back_step : Steps folder old last (MayPutAll files bytes)
        back_step = rw is (call_more folder is_known rest_all moving (λ was left may all. all) (λ was between left may mid all now.
            let rest : AllByRecursion (λ other. left (place_of other) ≡ bytes (place_of other)) others =
            all_with (λ other two back. now.others (place_of other) ((turned two).place).kept ((turned two).place).place ∙ back.left between mid)
            others apart.1 (backs apart.2 ready_others) in
            record {
              others = λ path off. now.others path (off.0).kept (off.0).place ∙ all.others path off;
              order = ⊎_elim (λ e. record { count = 1; first = (e ∙ stays.left between mid, tt); others = rest })
                  (λ f. record { count = 0; first = tt; others = (f (bytes (place_of file)) kept_is, rest) }) now.there;
            }))

        pub back_last : ((at : Option (List ℕ)) → folder.held rest (kept_at file) ≡ on_disk at → (IsFalse stood → at ≡ None) →
            IsOnDisk (folder.held last) (folder.may_leave last) (place_of file) at) →
            IsSameButTwo (kept_at file) (place_of file) (folder.held rest) (folder.held last) →
            AllByRecursion (IsBack (folder.held last) (folder.may_leave last) bytes) files
        back_last stands but = rw is (
          stands (bytes (place_of file)) kept_is (none apart.0 ready.0),
          all_with (λ other two back. still_on_disk folder is_known moving back (but (place_of other) ((turned two).place).kept ((turned two).place).place)
              (λ was left now. now.others (place_of other) ((turned two).place).kept ((turned two).place).place)) others apart.1 (backs apart.2 ready_others),
        )

pub kept_step : {F : Type 0} (folder : Ghosts F) → folder.is_known → {old mid new : F} {files : List StagedFile} {file : StagedFile} {others : List StagedFile} →
    files ≡ file ∷ others → Steps folder old mid (MayGo (kept_at file)) → Steps folder mid new (IsSameButKept others) → Steps folder old new (IsSameButKept files)
kept_step folder is_known is first next = rw is (call_more folder is_known first next (λ was left may go path off. go.others path off.0)
    (λ was between left may now go more path off. more path off.1 ∙ go.others path off.0))

-- the places, and the paths beside them, are none of those where the older files are kept
abbrev OffKept : List StagedFile → StagedFile → Type 0
OffKept files file = AllByRecursion (λ other. place_of file ≢ kept_at other) files × AllByRecursion (λ other. staged_at file ≢ kept_at other) files

off_kept : (files : List StagedFile) → HaveOwnPaths files → AllByRecursion (OffKept files) files
off_kept [] own = tt
off_kept (file ∷ others) own = (
  ((own.0.place_kept, all_by (λ other two. two.place.kept) others own.1), (own.0.staged_kept, all_by (λ other two. two.staged.kept) others own.1)),
  all_with (λ other two off. ((((turned two).place).kept, off.0), (((turned two).staged).kept, off.1))) others own.1 (off_kept others own.2),
)

module _ (files : List StagedFile) (own : HaveOwnPaths files) where
  pub beside_cleared : {was now last : List ℕ → Option Stored} → IsSameButKept files now last → StandBeside files was now → StandBeside files was last
  beside_cleared same = beside_on files (all_by (λ file off. (refl, same (staged_at file) off.1)) files (off_kept files own))

  module _ {F : Type 0} (folder : Ghosts F) (is_known : folder.is_known) (bytes : List ℕ → Option (List ℕ)) {rest last : F}
      (go : Steps folder rest last (IsSameButKept files)) where
    pub cleared_step : {old : F} → Steps folder old rest (MayPutAll files bytes) → Steps folder old last (MayPutAll files bytes)
    cleared_step step = call_more folder is_known step go (λ was left may all. all) (λ was between left may now all gone.
        let parts = all_parts (λ file. left (place_of file) ≡ between (place_of file)) all.order.count files
        (all_by (λ file off. gone (place_of file) off.0) files (off_kept files own)) in
        record {
          others = λ path is. gone path (all_by (λ file no. no.kept) files is) ∙ all.others path is;
          order = record {
            count = all.order.count;
            first = all_with (λ file e at. e ∙ at) (take all.order.count files) parts.0 all.order.first;
            others = all_with (λ file e at. e ∙ at) (drop all.order.count files) parts.1 all.order.others;
          };
        })

    module _ (same : IsSameButKept files (folder.held rest) (folder.held last)) where
      pub put_cleared : AllByRecursion (IsPut (folder.held rest) (folder.may_leave rest) bytes) files → AllByRecursion (IsPut (folder.held last) (folder.may_leave last) bytes) files
      put_cleared = all_with (λ file off put. record {
        place = still_on_disk folder is_known go put.place (same (place_of file) off.0) (λ was left gone. gone (place_of file) off.0);
        gone = same (staged_at file) off.1 ∙ put.gone;
      }) files (off_kept files own)

      pub back_cleared : AllByRecursion (IsBack (folder.held rest) (folder.may_leave rest) bytes) files → AllByRecursion (IsBack (folder.held last) (folder.may_leave last) bytes) files
      back_cleared = all_with (λ file off back. still_on_disk folder is_known go back (same (place_of file) off.0) (λ was left gone. gone (place_of file) off.0))
          files (off_kept files own)

-- nothing stands beside the places where all second names are gone
pub all_gone : (held : List ℕ → Option Stored) (may_leave : Left → Type 0) (bytes : List ℕ → Option (List ℕ)) (files : List StagedFile) {before mid after : ℕ} →
    AllByRecursion (IsPut held may_leave bytes) files → mid ≡ before → AllByRecursion (KeepsNone held) files ⊎ HasFailed mid after →
    AllByRecursion (IsGone held) files ⊎ HasFailed before after
all_gone held may_leave bytes files {after = after} puts same done = ⊎_elim
    (λ kept. inl (all_with (λ file put none. record { staged = put.gone; kept = none }) files puts kept))
    (λ failed. inr (subst (λ (n : ℕ). HasFailed n after) same failed)) done
