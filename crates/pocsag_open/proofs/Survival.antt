-- How an open round goes on line by line, and what is so where it is cut short.
use Rattle.pocsag_open.proofs.Prelude.{◌≡◌, inl, inr, ℕ, ◌+◌, ◌-◌, List, [], ◌∷◌, ◌++◌, length, take, drop, refl, sym, ap, ◌∙◌, subst, arith, append_assoc, append-nil, take-append-drop, OnErr, Result, Ok, Err, Delivers, TookPrefix, Page, LeavesOnly, started, OnLimit, ReadsAsEither, AreLines, IsFirstLine, PlacementResult, AreReplies, IsLineReply, IsSession, PrintsAndPlaces, AreFirstLines, IsCutBehind, IsCutShort, ReadsAfterLines, ReadsOrReplied, RepliesAndPlaces, RepliesTo, Survives, begun, between, untold, within}
use Rattle.std.proofs.Math.Seq.{take-append-add}
use Rattle.pocsag_journal.specs.declared.keeper.Keeper.{Ghosts as Keeping}

pub on_err : {X E : Type 0} (r : Result X E) (P Q : Type 0) → (P → Q) → OnErr r P → OnErr r Q
on_err (Ok x) P Q f h = tt
on_err (Err e) P Q f h = f h

-- a prefix that was taken is a part
part_of : (before after due : List ℕ) → TookPrefix before after due → after ≡ before ++ take (length after - length before) due
part_of before after due took =
    let n : ℕ = length after - length before in
    let all : length before + n ≡ length after = omega (arith, took.0) in
    sym took.1 ∙ ap (λ (k : ℕ). take k (before ++ due)) (sym all) ∙ take-append-add before due n

-- what is read as the pages before or after a reply
pub either_read : (Replies : (before after : List Page) → List ℕ → Type 0) (before after : List Page) (printed : List ℕ)
    (reads_as : List ℕ → List Page → Type 0) (left : List ℕ) → Replies before after printed → ReadsAsEither reads_as before after left →
    ReadsOrReplied reads_as Replies before left
either_read Replies before after printed reads_as left so (inl is) = inl is
either_read Replies before after printed reads_as left so (inr is) = inr (after, (printed, so, is))

-- an answer of which a prefix was reported is cut short
pub cut_due : (Replies : (before after : List Page) → List ℕ → Type 0) (before after : List Page) (out_before out_after due : List ℕ)
    (reads_as : List ℕ → List Page → Type 0) (may_leave : List ℕ → Type 0) → Replies before after due →
    ((left : List ℕ) → may_leave left → reads_as left after) → TookPrefix out_before out_after due →
    IsCutShort Replies before out_before out_after reads_as may_leave
cut_due Replies before after out_before out_after due reads_as may_leave reply kept took =
    let n : ℕ = length out_after - length out_before in
    begun after due (take n due) (drop n due) reply (sym (take-append-drop n due)) (part_of out_before out_after due took) kept

-- of its first part
pub cut_front : (Replies : (before after : List Page) → List ℕ → Type 0) (before : List Page)
    (out_before out_after first last : List ℕ) (reads_as : List ℕ → List Page → Type 0) (may_leave : List ℕ → Type 0) →
    Replies before before (first ++ last) → ((left : List ℕ) → may_leave left → reads_as left before) →
    TookPrefix out_before out_after first → IsCutShort Replies before out_before out_after reads_as may_leave
cut_front Replies before out_before out_after first last reads_as may_leave reply kept took =
    let n : ℕ = length out_after - length out_before in
    begun before (first ++ last) (take n first) (drop n first ++ last) reply
    (ap (λ (l : List ℕ). l ++ last) (sym (take-append-drop n first)) ∙ append_assoc (take n first) (drop n first) last)
    (part_of out_before out_after first took) kept

-- and of its last part
pub cut_last : (Replies : (before after : List Page) → List ℕ → Type 0) (before : List Page) (out_before mid out_after first last : List ℕ)
    (reads_as : List ℕ → List Page → Type 0) (may_leave : List ℕ → Type 0) → mid ≡ out_before ++ first → Replies before before (first ++ last) →
    ((left : List ℕ) → may_leave left → reads_as left before) → TookPrefix mid out_after last →
    IsCutShort Replies before out_before out_after reads_as may_leave
cut_last Replies before out_before mid out_after first last reads_as may_leave begins reply kept took =
    let n : ℕ = length out_after - length mid in
    begun before (first ++ last) (first ++ take n last) (drop n last) reply
    (ap (λ (l : List ℕ). first ++ l) (sym (take-append-drop n last)) ∙ sym (append_assoc first (take n last) (drop n last)))
    (part_of mid out_after last took ∙ ap (λ (l : List ℕ). l ++ take n last) begins ∙ append_assoc out_before first (take n last)) kept

-- and by other names
module _ (Replies More : (before after : List Page) → List ℕ → Type 0) (before : List Page) (reads_as : List ℕ → List Page → Type 0)
    (also : (after : List Page) (printed : List ℕ) → Replies before after printed → More before after printed) where
  pub read_as : (left : List ℕ) → ReadsOrReplied reads_as Replies before left → ReadsOrReplied reads_as More before left
  read_as left (inl is) = inl is
  read_as left (inr (after, (reply, so, is))) = inr (after, (reply, also after reply so, is))

  pub cut_as : {out_before out_after : List ℕ} {may_leave : List ℕ → Type 0} → IsCutShort Replies before out_before out_after reads_as may_leave →
      IsCutShort More before out_before out_after reads_as may_leave
  cut_as (untold same either) = untold same (λ left now. read_as left (either left now))
  cut_as (begun after reply part more so parts took kept) = begun after reply part more (also after reply so) parts took kept

-- where what keeps the edits stands for the pages
module _ {S : Type 0} (K : Keeping S) {keeper : S} {pages : List Page} (keeps : K.is_known) (stands : K.represents keeper pages) where
  -- what a crash leaves is read as these
  pub restarted : (left : List ℕ) → K.may_leave keeper left → K.reads_as left pages
  restarted left now = K.restarts keeper pages left keeps stands now

  -- where nothing is kept, it leaves what it might have left before
  pub unmoved : {Holds : List ℕ → Type 0} → ((left : List ℕ) → K.reads_as left pages → Holds left) → LeavesOnly K.moment K.left_since keeper keeper Holds
  unmoved here = started K.moment K.left_since keeper _ (λ left since. here left (restarted left (K.only_now keeper left keeps since)))

  -- and an answer that leaves them is told or cut short
  pub cut_told : {X E : Type 0} (r : Result X E) (Replies : (before after : List Page) → List ℕ → Type 0) {before : List Page} (out_before out_after : List ℕ) {due : List ℕ} →
      Replies before pages due → Delivers r out_before out_after due →
      OnErr r (IsCutShort Replies before out_before out_after K.reads_as (K.may_leave keeper))
  cut_told r Replies out_before out_after reply told = on_err r _ _ (cut_due _ _ _ _ _ _ _ _ reply restarted) told.1

-- one line more
lines_more : (lines : List (List ℕ)) (line bytes pending rest : List ℕ) → AreFirstLines lines bytes pending → IsFirstLine pending line rest →
    AreFirstLines (lines ++ line ∷ []) bytes rest
unfolding AreFirstLines
lines_more [] line bytes pending rest firsts first = (rest, subst (λ (b : List ℕ). IsFirstLine b line rest) firsts first, refl)
lines_more (l ∷ lines) line bytes pending rest firsts first =
    (firsts.0, firsts.1, lines_more lines line firsts.0 pending rest firsts.2 first)

replies_more : (IsKnown OutputFails : Type 0) (on_limit : OnLimit) (lines : List (List ℕ)) (line : List ℕ) (before now after : List Page) (printed reply : List ℕ)
    (placed its : List PlacementResult) → AreReplies IsKnown OutputFails on_limit lines before now printed placed → IsLineReply IsKnown OutputFails on_limit line now after reply its →
    AreReplies IsKnown OutputFails on_limit (lines ++ line ∷ []) before after (printed ++ reply) (placed ++ its)
unfolding AreReplies
replies_more IsKnown OutputFails on_limit [] line before now after printed reply placed its replies next =
    let here : IsLineReply IsKnown OutputFails on_limit line before after reply its =
    subst (λ (ps : List Page). IsLineReply IsKnown OutputFails on_limit line ps after reply its) replies.0 next in (
      after,
      reply,
      [],
      its,
      [],
      here,
      (refl, refl, refl),
      ap (λ (l : List ℕ). l ++ reply) replies.1 ∙ sym (append-nil reply),
      ap (λ (l : List PlacementResult). l ++ its) replies.2 ∙ sym (append-nil its),
    )
replies_more IsKnown OutputFails on_limit (l ∷ lines) line before now after printed reply placed its (mid, first, more, one, others, here, rest, parts, sent) next = (
  mid,
  first,
  more ++ reply,
  one,
  others ++ its,
  here,
  replies_more IsKnown OutputFails on_limit lines line mid now after more reply others its rest next,
  ap (λ (t : List ℕ). t ++ reply) parts ∙ append_assoc first more reply,
  ap (λ (t : List PlacementResult). t ++ its) sent ∙ append_assoc one others its,
)

-- the lines so far are answered
pub record Answered (IsKnown OutputFails : Type 0) (on_limit : OnLimit) (input pending : List ℕ) (before now : List Page) (out_before out_after : List ℕ)
    (placed_before placed_after : List PlacementResult) : Type 0 where
  pub lines : List (List ℕ)
  pub printed : List ℕ
  pub placed : List PlacementResult
  pub firsts : AreFirstLines lines input pending
  pub replies : AreReplies IsKnown OutputFails on_limit lines before now printed placed
  pub answers : out_after ≡ out_before ++ printed
  pub outputs : IsKnown → placed_after ≡ placed_before ++ placed

pub none_answered : {IsKnown OutputFails : Type 0} {on_limit : OnLimit} {input pending : List ℕ} {before : List Page} {out : List ℕ} {placed : List PlacementResult} →
    pending ≡ input → Answered IsKnown OutputFails on_limit input pending before before out out placed placed
unfolding AreFirstLines AreReplies
none_answered {out = out} {placed = placed} e = record {
  lines = [];
  printed = [];
  placed = [];
  firsts = e;
  replies = (refl, refl, refl);
  answers = sym (append-nil out);
  outputs = λ is_known. sym (append-nil placed);
}

all_lines : (lines : List (List ℕ)) (bytes rest : List ℕ) → rest ≡ [] → AreFirstLines lines bytes rest → AreLines lines bytes
unfolding AreFirstLines AreLines
all_lines [] bytes rest none firsts = sym firsts ∙ none
all_lines (line ∷ lines) bytes rest none firsts = (firsts.0, firsts.1, all_lines lines firsts.0 rest none firsts.2)

module _ {IsKnown OutputFails : Type 0} {on_limit : OnLimit} {input pending : List ℕ} {before now : List Page} {start out : List ℕ} {first_placed placed : List PlacementResult}
    (so_far : Answered IsKnown OutputFails on_limit input pending before now start out first_placed placed) where
  pub one_answered : {line rest : List ℕ} {after : List Page} {next : List ℕ} {then_placed : List PlacementResult} → IsFirstLine pending line rest →
      PrintsAndPlaces IsKnown out next placed then_placed (IsLineReply IsKnown OutputFails on_limit line now after) →
      Answered IsKnown OutputFails on_limit input rest before after start next first_placed then_placed
  one_answered {line} {rest} {after} first reply = record {
    lines = so_far.lines ++ line ∷ [];
    printed = so_far.printed ++ reply.printed;
    placed = so_far.placed ++ reply.placed;
    firsts = lines_more so_far.lines line input pending rest so_far.firsts first;
    replies = replies_more IsKnown OutputFails on_limit so_far.lines line before now after so_far.printed reply.printed so_far.placed reply.placed so_far.replies reply.holds;
    answers = reply.answers ∙ ap (λ (l : List ℕ). l ++ reply.printed) so_far.answers ∙ append_assoc start so_far.printed reply.printed;
    outputs = λ is_known. reply.outputs is_known ∙ ap (λ (l : List PlacementResult). l ++ reply.placed) (so_far.outputs is_known)
        ∙ append_assoc first_placed so_far.placed reply.placed;
  }

  -- no line is left
  pub all_answered : pending ≡ [] → PrintsAndPlaces IsKnown start out first_placed placed (IsSession IsKnown OutputFails on_limit input before now)
  all_answered none = record {
    printed = so_far.printed;
    placed = so_far.placed;
    answers = so_far.answers;
    outputs = so_far.outputs;
    holds = record { lines = so_far.lines; cut = all_lines so_far.lines input pending none so_far.firsts; replies = so_far.replies };
  }

  module _ {reads_as : List ℕ → List Page → Type 0} where
    -- what a crash leaves, by what stands behind the lines that are answered
    survives : {next : List ℕ} {then_placed : List PlacementResult} {may_leave : List ℕ → Type 0} →
        IsCutBehind IsKnown OutputFails on_limit pending now (start ++ so_far.printed) next (first_placed ++ so_far.placed) then_placed reads_as may_leave →
        Survives IsKnown OutputFails on_limit input before start next first_placed then_placed reads_as may_leave
    survives cut = record {
      lines = so_far.lines;
      rest = pending;
      now = now;
      printed = so_far.printed;
      placed = so_far.placed;
      firsts = so_far.firsts;
      replies = so_far.replies;
      cut = cut;
    }

    -- between two lines
    pub survives_between : {may_leave : List ℕ → Type 0} → ((left : List ℕ) → may_leave left → reads_as left now) →
        Survives IsKnown OutputFails on_limit input before start out first_placed placed reads_as may_leave
    survives_between kept = survives (between so_far.answers kept)

    -- and within one
    pub survives_within : {line behind next : List ℕ} {then_placed : List PlacementResult} {may_leave : List ℕ → Type 0} → IsFirstLine pending line behind →
        IsCutShort (RepliesAndPlaces IsKnown OutputFails on_limit line placed then_placed) now out next reads_as may_leave →
        Survives IsKnown OutputFails on_limit input before start next first_placed then_placed reads_as may_leave
    survives_within {line} {behind} {next} {then_placed} {may_leave} first cut =
        survives (within line behind first
        (subst (λ (l : List ℕ). IsCutShort (RepliesAndPlaces IsKnown OutputFails on_limit line (first_placed ++ so_far.placed) then_placed) now l next reads_as may_leave)
        so_far.answers
        (cut_as (RepliesAndPlaces IsKnown OutputFails on_limit line placed then_placed)
        (RepliesAndPlaces IsKnown OutputFails on_limit line (first_placed ++ so_far.placed) then_placed) now reads_as
        (λ after printed is. (is.0, is.1, λ is_known. is.2 is_known ∙ ap (λ (l : List PlacementResult). l ++ is.0) (so_far.outputs is_known))) cut)))

    -- what is read as the pages now is read after the lines so far
    pub read_now : {left : List ℕ} → reads_as left now → ReadsAfterLines IsKnown OutputFails on_limit input before reads_as left
    read_now is = record {
      lines = so_far.lines;
      rest = pending;
      pages = now;
      printed = so_far.printed;
      placed = so_far.placed;
      firsts = so_far.firsts;
      replies = so_far.replies;
      read = is;
    }

    -- and as those that the reply leaves, after one line more
    pub read_next : {line behind left : List ℕ} → IsFirstLine pending line behind →
        ReadsOrReplied reads_as (RepliesTo IsKnown OutputFails on_limit line) now left → ReadsAfterLines IsKnown OutputFails on_limit input before reads_as left
    read_next {line} {behind} first (inl is) = read_now is
    read_next {line} {behind} first (inr (after, (printed, (its, reply), is))) = record {
      lines = so_far.lines ++ line ∷ [];
      rest = behind;
      pages = after;
      printed = so_far.printed ++ printed;
      placed = so_far.placed ++ its;
      firsts = lines_more so_far.lines line input pending behind so_far.firsts first;
      replies = replies_more IsKnown OutputFails on_limit so_far.lines line before now after so_far.printed printed so_far.placed its so_far.replies reply;
      read = is;
    }
