-- What a crash of a disk over memory might have left, from one call to the next.
use Rattle.pocsag_command_cases.proofs.Prelude.{◌≡◌, ◌⊎◌, inl, inr, ⊎_elim, ℕ, zero, suc, ◌+◌, ◌-◌, ◌<◌, ◌≤◌, List, [], ◌∷◌, ◌++◌, length, take, drop, sym, ◌∙◌, ap, subst, arith, refl, append-nil, append_assoc, length-append, take-append-drop, take-append-le, take_all, TookPrefix, Elapses, LeavesFrom, LeftAt, LeftSince, lines_length, moment_after, text_bytes, text_front, Text}
use Rattle.std.proofs.Math.Seq.{take-append_seam, take-append-add}
use Rattle.pocsag_journal.specs.Crashes.{IsTorn}

synced_more : (past : List Text) (synced more : ℕ) → synced ≤ more → moment_after past synced ≤ moment_after past more
unfolding moment_after
synced_more [] synced more le = le
synced_more (text ∷ past) synced more le = omega (arith, synced_more past synced more le)

-- more is synchronised of the text that is there
pub elapses_synced : (past : List Text) (now : Text) (synced more : ℕ) → synced ≤ more →
    Elapses (moment_after past synced) (moment_after past more) (LeftSince past now) (LeftSince past now) (LeavesFrom now more)
elapses_synced past now synced more le = record {
  later = synced_more past synced more le;
  nothing_else = λ t left before since. inl since;
  keeps = λ t left before since. since;
}

pub either_way : (n m : ℕ) → (n ≤ m) ⊎ (m < n)
either_way zero m = inl (omega arith)
either_way (suc n) zero = inr (omega arith)
either_way (suc n) (suc m) = ⊎_elim (λ le. inl (omega (arith, le))) (λ lt. inr (omega (arith, lt))) (either_way n m)

takes_more : (lines front : List ℕ) (n : ℕ) → take n (lines ++ front) ≡ take n lines ++ take (n - length lines) front
takes_more lines front n = ⊎_elim
    (λ le. let none : n - length lines ≡ zero = omega (arith, le) in
    take-append-le n lines front le ∙ (sym (append-nil (take n lines)) ∙ ap (λ (k : ℕ). take n lines ++ take k front) (sym none)))
    (λ lt. let sum : length lines + (n - length lines) ≡ n = omega (arith, lt) in
    ap (λ (k : ℕ). take k (lines ++ front)) (sym sum) ∙ (take-append-add lines front (n - length lines)
    ∙ ap (λ (l : List ℕ). l ++ take (n - length lines) front) (sym (take_all n lines (omega (arith, lt))))))
    (either_way n (length lines))

-- What stands in a text behind which a front was written.
pub record IsAppended (text later : Text) (front : List ℕ) : Type 0 where
  pub begun : later.begun.items ≡ text.begun.items
  pub lines : later.lines.items ≡ text.lines.items ++ front

-- no byte more is synchronised once a front was written
pub synced_before : (text later : Text) (front : List ℕ) (all synced unsynced : ℕ) → IsAppended text later front →
    all ≡ lines_length later → synced ≡ lines_length text - unsynced → lines_length later - (all - synced) ≡ lines_length text - unsynced
synced_before text later front all synced unsynced more is_all is_synced =
    omega (arith, ap length more.lines, length-append text.lines.items front, is_all, is_synced)

front_appended : (text later : Text) (front : List ℕ) (n : ℕ) → IsAppended text later front →
    text_front later n ≡ text_front text n ++ take (n - lines_length text) front
front_appended text later front n is =
    ap (λ (l : List ℕ). l ++ take n later.lines.items) is.begun
    ∙ (ap (λ (l : List ℕ). text.begun.items ++ take n l) is.lines
    ∙ (ap (λ (l : List ℕ). text.begun.items ++ l) (takes_more text.lines.items front n)
    ∙ sym (append_assoc text.begun.items (take n text.lines.items) (take (n - lines_length text) front))))

-- what is a front of a front of a line is one of the line
front_of : (line : List ℕ) (j k : ℕ) → take j (take k line) ≡ take (length (take j (take k line))) line
front_of line j k =
    let p = take j (take k line) in
    let whole : p ++ (drop j (take k line) ++ drop k line) ≡ line =
    sym (append_assoc p (drop j (take k line)) (drop k line))
    ∙ (ap (λ (l : List ℕ). l ++ drop k line) (take-append-drop j (take k line)) ∙ take-append-drop k line) in
    sym (take-append_seam p (drop j (take k line) ++ drop k line)) ∙ ap (take (length p)) whole

pub leaves_torn : (text later : Text) (line front : List ℕ) (k synced synced_later : ℕ) → IsAppended text later front →
    front ≡ take k line → synced_later ≡ synced → (left : List ℕ) → LeavesFrom later synced_later left →
    (was : List ℕ) × LeavesFrom text synced was × IsTorn line was left
leaves_torn text later line front k synced synced_later is cut same left (n, least, e) =
    let j : ℕ = n - lines_length text in
    let part : List ℕ = take j (take k line) in
    let rest : List ℕ = drop j (take k line) ++ drop k line in
    let whole : part ++ rest ≡ line =
    sym (append_assoc part (drop j (take k line)) (drop k line))
    ∙ (ap (λ (l : List ℕ). l ++ drop k line) (take-append-drop j (take k line)) ∙ take-append-drop k line) in (
      text_front text n,
      (n, subst (λ (s : ℕ). s ≤ n) same least, refl),
      record {
        part = part;
        parts = e ∙ (front_appended text later front n is ∙ ap (λ (l : List ℕ). text_front text n ++ take j l) cut);
        few = omega (arith, ap length whole, length-append part rest);
        kind = inl (front_of line j k);
      },
    )

-- what might have been left before the line was written, or may be left now
appended_at : (past : List Text) (text later : Text) (front : List ℕ) (synced m : ℕ) → IsAppended text later front →
    synced ≤ lines_length text → (left : List ℕ) → LeftAt past later m left → LeftAt past text m left ⊎ LeavesFrom later synced left
unfolding LeftAt
appended_at [] text later front synced m is few left at = ⊎_elim
    (λ le. let none : m - lines_length text ≡ zero = omega (arith, le) in
    inl (at ∙ (front_appended text later front m is
    ∙ (ap (λ (j : ℕ). text_front text m ++ take j front) none ∙ append-nil (text_front text m)))))
    (λ lt. inr (m, omega (arith, lt, few), at))
    (either_way m (lines_length text))
appended_at (old ∷ past) text later front synced m is few left (inl of_old) = inl (inl of_old)
appended_at (old ∷ past) text later front synced m is few left (inr (k, sum, at)) =
    ⊎_elim (λ was. inl (inr (k, sum, was))) (λ now. inr now) (appended_at past text later front synced k is few left at)

-- what might have been left stays among what might have been
still_left : (past : List Text) (text later : Text) (front : List ℕ) (synced t m : ℕ) → IsAppended text later front →
    synced ≤ lines_length text → t ≤ moment_after past synced → t ≤ m → (left : List ℕ) → LeftAt past text m left → LeftSince past later t left
unfolding LeftAt moment_after
still_left [] text later front synced t m is few before le left at = ⊎_elim
    (λ short. let none : m - lines_length text ≡ zero = omega (arith, short) in (
      m,
      le,
      at ∙ sym (front_appended text later front m is
          ∙ (ap (λ (j : ℕ). text_front text m ++ take j front) none ∙ append-nil (text_front text m))),
    ))
    (λ lt. let none : lines_length text - lines_length text ≡ zero = omega arith in
    let all : text_front text m ≡ text_front text (lines_length text) =
    ap (λ (l : List ℕ). text.begun.items ++ l)
    (take_all m text.lines.items (omega (arith, lt)) ∙ sym (take_all (lines_length text) text.lines.items (omega arith))) in (
      lines_length text,
      omega (arith, before, few),
      at ∙ (all ∙ sym (front_appended text later front (lines_length text) is
          ∙ (ap (λ (j : ℕ). text_front text (lines_length text) ++ take j front) none ∙ append-nil (text_front text (lines_length text))))),
    ))
    (either_way m (lines_length text))
still_left (old ∷ past) text later front synced t m is few before le left (inl of_old) = (m, le, inl of_old)
still_left (old ∷ past) text later front synced t m is few before le left (inr (k, sum, at)) =
    let from : ℕ = t - (lines_length old + 1) in
    let since = still_left past text later front synced from k is few (omega (arith, before)) (omega (arith, le, sum)) left at in
    (lines_length old + 1 + since.0, omega (arith, since.1), inr (since.0, refl, since.2))

-- a line is written, or a front of it
pub elapses_appended : (past : List Text) (text later : Text) (front : List ℕ) (synced synced_later : ℕ) → IsAppended text later front →
    synced ≤ lines_length text → synced_later ≡ synced →
    Elapses (moment_after past synced) (moment_after past synced_later) (LeftSince past text) (LeftSince past later) (LeavesFrom later synced_later)
elapses_appended past text later front synced synced_later is few same = record {
  later = omega (arith, ap (moment_after past) same);
  nothing_else = λ t left before since. ⊎_elim (λ was. inl (since.0, since.1, was)) (λ now. inr now)
      (appended_at past text later front synced_later since.0 is (omega (arith, same, few)) left since.2);
  keeps = λ t left before since. still_left past text later front synced t since.0 is few before since.1 left since.2;
}

-- The same bytes, with another text's.
pub record IsCopy (text old : Text) : Type 0 where
  pub begun : old.begun.items ≡ text.begun.items
  pub lines : old.lines.items ≡ text.lines.items

front_copied : (text old : Text) (n : ℕ) → IsCopy text old → text_front old n ≡ text_front text n
front_copied text old n same =
    ap (λ (l : List ℕ). l ++ take n old.lines.items) same.begun ∙ ap (λ (l : List ℕ). text.begun.items ++ take n l) same.lines

-- a text that was put there at once might be left now
replaced_at : (past : List Text) (text old now : Text) (m : ℕ) → IsCopy text old →
    (left : List ℕ) → LeftAt (past ++ old ∷ []) now m left → LeftAt past text m left ⊎ LeavesFrom now 0 left
unfolding LeftAt
replaced_at [] text old now m same left (inl (within, is)) = inl (is ∙ front_copied text old m same)
replaced_at [] text old now m same left (inr (k, sum, at)) = inr (k, omega arith, at)
replaced_at (was ∷ past) text old now m same left (inl of_past) = inl (inl of_past)
replaced_at (was ∷ past) text old now m same left (inr (k, sum, at)) =
    ⊎_elim (λ before. inl (inr (k, sum, before))) (λ is. inr is) (replaced_at past text old now k same left at)

left_once : (past : List Text) (text old now : Text) (synced t m : ℕ) → IsCopy text old → synced ≤ lines_length text →
    t ≤ moment_after past synced → t ≤ m → (left : List ℕ) → LeftAt past text m left → LeftSince (past ++ old ∷ []) now t left
unfolding LeftAt moment_after
left_once [] text old now synced t m same few before le left at =
    let long : lines_length old ≡ lines_length text = ap length same.lines in
    ⊎_elim
    (λ short. (m, le, inl (omega (arith, long, short), at ∙ sym (front_copied text old m same))))
    (λ lt. let all : text_front text m ≡ text_front text (lines_length text) =
    ap (λ (l : List ℕ). text.begun.items ++ l)
    (take_all m text.lines.items (omega (arith, lt)) ∙ sym (take_all (lines_length text) text.lines.items (omega arith))) in (
      lines_length text,
      omega (arith, before, few),
      inl (omega (arith, long), at ∙ (all ∙ sym (front_copied text old (lines_length text) same))),
    ))
    (either_way m (lines_length text))
left_once (was ∷ past) text old now synced t m same few before le left (inl of_past) = (m, le, inl of_past)
left_once (was ∷ past) text old now synced t m same few before le left (inr (k, sum, at)) =
    let from : ℕ = t - (lines_length was + 1) in
    let since = left_once past text old now synced from k same few (omega (arith, before)) (omega (arith, le, sum)) left at in
    (lines_length was + 1 + since.0, omega (arith, since.1), inr (since.0, refl, since.2))

moment_replaced : (past : List Text) (old : Text) (synced : ℕ) → synced ≤ lines_length old →
    moment_after past synced ≤ moment_after (past ++ old ∷ []) 0
unfolding moment_after
moment_replaced [] old synced few = omega (arith, few)
moment_replaced (was ∷ past) old synced few = omega (arith, moment_replaced past old synced few)

-- another text is put in its place
pub elapses_replaced : (past : List Text) (text old now : Text) (synced : ℕ) → old.begun.items ≡ text.begun.items →
    old.lines.items ≡ text.lines.items → synced ≤ lines_length text →
    Elapses (moment_after past synced) (moment_after (past ++ old ∷ []) 0) (LeftSince past text) (LeftSince (past ++ old ∷ []) now)
    (LeavesFrom now 0)
elapses_replaced past text old now synced begun lines few =
    let same : IsCopy text old = record { begun = begun; lines = lines } in record {
      later = moment_replaced past old synced (omega (arith, few, ap length lines));
      nothing_else = λ t left before since. ⊎_elim (λ was. inl (since.0, since.1, was)) (λ is. inr is)
          (replaced_at past text old now since.0 same left since.2);
      keeps = λ t left before since. left_once past text old now synced t since.0 same few before since.1 left since.2;
    }

pub all_front : (text : Text) (n : ℕ) → n ≡ lines_length text → text_front text n ≡ text_bytes text
all_front text n all = ap (λ (l : List ℕ). text.begun.items ++ l) (take_all n text.lines.items (omega (arith, all)))

-- part of a line is written
pub took_part : (text later : Text) (line front : List ℕ) (k : ℕ) → IsAppended text later front → front ≡ take k line →
    TookPrefix (text_bytes text) (text_bytes later) line
took_part text later line front k is cut =
    let all : text_bytes later ≡ text_bytes text ++ front =
    ap (λ (l : List ℕ). l ++ later.lines.items) is.begun ∙ (ap (λ (l : List ℕ). text.begun.items ++ l) is.lines
    ∙ sym (append_assoc text.begun.items text.lines.items front)) in
    let whole : front ++ drop k line ≡ line = ap (λ (l : List ℕ). l ++ drop k line) cut ∙ take-append-drop k line in
    let same : text_bytes text ++ line ≡ text_bytes later ++ drop k line =
    ap (λ (l : List ℕ). text_bytes text ++ l) (sym whole) ∙ (sym (append_assoc (text_bytes text) front (drop k line))
    ∙ ap (λ (l : List ℕ). l ++ drop k line) (sym all)) in (
      omega (arith, ap length all, length-append (text_bytes text) front),
      ap (take (length (text_bytes later))) same ∙ take-append_seam (text_bytes later) (drop k line),
    )
