-- A session is a run of edits whose records are lines.
use Rattle.pocsag_laws.proofs.Prelude.{ℕ, List, [], ◌∷◌, ◌++◌, refl, arith, AllByRecursion, Row, Page, OnLimit, IsLine, HasNoLineFeed, record_text, IsRun, sent_record, runs_join, read_line, run_lined, AreLines, PlacementResult, AreReplies, IsLineReply, IsReply, IsSession, edited, listed, noted, planned, read, refused, sent_first, too_long, unread}
use Rattle.pocsag_journal.specs.PageLines.{HaveLines}
use Rattle.pocsag_open.proofs.Ends.{sent_line, text_feedless}
use Rattle.pocsag_open.proofs.Fronts.{front_edit}

-- a run of lines leads from these pages to those
abbrev LineRun : (before after : List Page) → Type 0
LineRun before after = (rows : List Row) × AllByRecursion IsLine rows × IsRun rows before after

reply_run : (IsKnown OutputFails : Type 0) (on_limit : OnLimit) (row : Row) (before after : List Page) (told : List ℕ) (placed : List PlacementResult) → IsLine row →
    IsReply IsKnown OutputFails on_limit row before after told placed → LineRun before after
unfolding IsRun
reply_run IsKnown OutputFails on_limit row before after told placed line (edited edit t n) = (row ∷ [], (line, tt), (after, edit, refl))
reply_run IsKnown OutputFails on_limit row before after told placed line (listed is same t n) = ([], tt, same)
reply_run IsKnown OutputFails on_limit row before after told placed line (noted is same t n) = ([], tt, same)
reply_run IsKnown OutputFails on_limit row before after told placed line (planned end tx cert batches bound sent asks is same t n) = ([], tt, same)
reply_run IsKnown OutputFails on_limit row before after told placed line (sent_first end most tx cert count batches bound sent asks is left t n) =
    let edit = front_edit IsKnown on_limit end most tx cert before after count batches bound sent is left (sent_record count) refl in
    (sent_record count ∷ [], (sent_line count (omega (arith, is.front.among, is.round.few)), tt), (after, edit, refl))
reply_run IsKnown OutputFails on_limit row before after told placed line (refused why due same t) = ([], tt, same)

line_run : (IsKnown OutputFails : Type 0) (on_limit : OnLimit) (line : List ℕ) (before after : List Page) (told : List ℕ) (placed : List PlacementResult) →
    HasNoLineFeed line → IsLineReply IsKnown OutputFails on_limit line before after told placed → LineRun before after
unfolding IsRun
line_run IsKnown OutputFails on_limit line before after told placed none (too_long long same t n) = ([], tt, same)
line_run IsKnown OutputFails on_limit line before after told placed none (unread why few is same t n) = ([], tt, same)
line_run IsKnown OutputFails on_limit line before after told placed none (read row few spelled reply) =
    reply_run IsKnown OutputFails on_limit row before after told placed (read_line row (record_text line) spelled (text_feedless line none)) reply

all_joined : (rows more : List Row) → AllByRecursion IsLine rows → AllByRecursion IsLine more → AllByRecursion IsLine (rows ++ more)
all_joined [] more each others = others
all_joined (row ∷ rows) more each others = (each.0, all_joined rows more each.1 others)

replies_run : (IsKnown OutputFails : Type 0) (on_limit : OnLimit) (lines : List (List ℕ)) (bytes : List ℕ) (before after : List Page) (told : List ℕ)
    (placed : List PlacementResult) → AreLines lines bytes → AreReplies IsKnown OutputFails on_limit lines before after told placed → LineRun before after
unfolding AreLines AreReplies IsRun
replies_run IsKnown OutputFails on_limit [] bytes before after told placed cut replies = ([], tt, replies.0)
replies_run IsKnown OutputFails on_limit (line ∷ lines) bytes before after told placed (rest, first, cut)
    (between, reply, more, its, others, here, next, parts, sent) =
    let one = line_run IsKnown OutputFails on_limit line before between reply its first.one here in
    let others = replies_run IsKnown OutputFails on_limit lines rest between after more others cut next in
    (one.0 ++ others.0, all_joined one.0 others.0 one.1 others.1, runs_join one.0 others.0 before between after one.2 others.2)

pub session_run : (IsKnown OutputFails : Type 0) (on_limit : OnLimit) (input told : List ℕ) (before after : List Page) (placed : List PlacementResult) →
    IsSession IsKnown OutputFails on_limit input before after told placed → LineRun before after
session_run IsKnown OutputFails on_limit input told before after placed session =
    replies_run IsKnown OutputFails on_limit session.lines input before after told placed session.cut session.replies

pub session_lined : (IsKnown OutputFails : Type 0) (on_limit : OnLimit) (input told : List ℕ) (before after : List Page) (placed : List PlacementResult) →
    IsSession IsKnown OutputFails on_limit input before after told placed → HaveLines before → HaveLines after
session_lined IsKnown OutputFails on_limit input told before after placed session lined =
    let run = session_run IsKnown OutputFails on_limit input told before after placed session in
    run_lined run.0 before after run.1 run.2 lined
