use Rattle.pocsag_command_cases.proofs.Prelude.{◌≡◌, ℕ, ◌-◌, List, [], take, length, arith, refl, sym, ap, ◌∙◌, append-nil, length-append, lines_length, Text}
use Rattle.pocsag_command_cases.proofs.Disks.{IsAppended, elapses_appended, leaves_torn, synced_before, took_part}
use Rattle.pocsag_command_cases.proofs.crash_disk.CrashDiskDisk.append.Goals as goal

pub returns-in_default-clause-crash : goal.returns-in_default-clause-crash
returns-in_default-clause-crash c = λ is_known.
    let text = c.args.self.now.text in
    let later : Text = record { begun = c.args.self.now.text.begun; lines = c.extend_from_slice.new.self } in
    let none : IsAppended text later [] = record { begun = refl; lines = c.in_default.ensures.items ∙ sym (append-nil text.lines.items) } in
    let same : lines_length later - c.args.self.now.unsynced ≡ lines_length text - c.args.self.now.unsynced =
    ap (λ (l : List ℕ). length l - c.args.self.now.unsynced) c.in_default.ensures.items in
    leaves_torn text later c.args.line.now [] 0 _ _ none refl same

pub returns-in_default-clause-time : goal.returns-in_default-clause-time
returns-in_default-clause-time c = λ is_known.
    let text = c.args.self.now.text in
    let later : Text = record { begun = c.args.self.now.text.begun; lines = c.extend_from_slice.new.self } in
    let none : IsAppended text later [] = record { begun = refl; lines = c.in_default.ensures.items ∙ sym (append-nil text.lines.items) } in
    let same : lines_length later - c.args.self.now.unsynced ≡ lines_length text - c.args.self.now.unsynced =
    ap (λ (l : List ℕ). length l - c.args.self.now.unsynced) c.in_default.ensures.items in
    elapses_appended c.args.self.now.past.items text later [] _ _ none (omega arith) same

pub returns-then-front-line-clause-crash : goal.returns-then-front-line-clause-crash
returns-then-front-line-clause-crash c = λ is_known.
    let text = c.args.self.now.text in
    let later : Text = record { begun = c.args.self.now.text.begun; lines = c.extend_from_slice.new.self } in
    let front : List ℕ = take c.min.result c.args.line.now in
    let more : IsAppended text later front = record { begun = refl; lines = c.in-Ok.ensures.items } in
    let same = synced_before text later front c.len-2.result c.saturating_sub-synced.result c.args.self.now.unsynced more
    (omega (arith, c.len-2.ensures, later.lines.ok.0)) (omega (arith, c.saturating_sub-synced.ensures, c.len.ensures, text.lines.ok.0)) in
    leaves_torn text later c.args.line.now front c.min.result _ _ more refl same

pub returns-then-front-line-clause-time : goal.returns-then-front-line-clause-time
returns-then-front-line-clause-time c = λ is_known.
    let text = c.args.self.now.text in
    let later : Text = record { begun = c.args.self.now.text.begun; lines = c.extend_from_slice.new.self } in
    let front : List ℕ = take c.min.result c.args.line.now in
    let more : IsAppended text later front = record { begun = refl; lines = c.in-Ok.ensures.items } in
    let same = synced_before text later front c.len-2.result c.saturating_sub-synced.result c.args.self.now.unsynced more
    (omega (arith, c.len-2.ensures, later.lines.ok.0)) (omega (arith, c.saturating_sub-synced.ensures, c.len.ensures, text.lines.ok.0)) in
    elapses_appended c.args.self.now.past.items text later front _ _ more (omega arith) same

pub returns-clause-crash : goal.returns-clause-crash
returns-clause-crash c = λ is_known.
    let text = c.args.self.now.text in
    let later : Text = record { begun = c.args.self.now.text.begun; lines = c.extend_from_slice.new.self } in
    let front : List ℕ = take c.min.result c.args.line.now in
    let more : IsAppended text later front = record { begun = refl; lines = c.in-Ok.ensures.items } in
    let same = synced_before text later front c.len-2.result c.saturating_sub-synced.result c.args.self.now.unsynced more
    (omega (arith, c.len-2.ensures, later.lines.ok.0)) (omega (arith, c.saturating_sub-synced.ensures, c.len.ensures, text.lines.ok.0)) in
    leaves_torn text later c.args.line.now front c.min.result _ _ more refl same

pub returns-clause-time : goal.returns-clause-time
returns-clause-time c = λ is_known.
    let text = c.args.self.now.text in
    let later : Text = record { begun = c.args.self.now.text.begun; lines = c.extend_from_slice.new.self } in
    let front : List ℕ = take c.min.result c.args.line.now in
    let more : IsAppended text later front = record { begun = refl; lines = c.in-Ok.ensures.items } in
    let same = synced_before text later front c.len-2.result c.saturating_sub-synced.result c.args.self.now.unsynced more
    (omega (arith, c.len-2.ensures, later.lines.ok.0)) (omega (arith, c.saturating_sub-synced.ensures, c.len.ensures, text.lines.ok.0)) in
    elapses_appended c.args.self.now.past.items text later front _ _ more (omega arith) same

pub returns-then-front-line-clause-delivers : goal.returns-then-front-line-clause-delivers
returns-then-front-line-clause-delivers c = λ is_known.
    let text = c.args.self.now.text in
    let later : Text = record { begun = c.args.self.now.text.begun; lines = c.extend_from_slice.new.self } in
    let front : List ℕ = take c.min.result c.args.line.now in
    let more : IsAppended text later front = record { begun = refl; lines = c.in-Ok.ensures.items } in
    (tt, took_part text later c.args.line.now front c.min.result more refl)
