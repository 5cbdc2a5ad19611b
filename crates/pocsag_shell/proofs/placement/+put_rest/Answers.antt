use Rattle.pocsag_shell.proofs.Prelude.{refl}
use Rattle.pocsag_shell.proofs.Placements.{back_first, back_last, back_step, beside_first, beside_rest, first_step, put_last, rest_step, split}
use Rattle.pocsag_shell.proofs.placement.+put_rest.Goals as goal

pub returns-in-Err-clause-back : goal.returns-in-Err-clause-back
returns-in-Err-clause-back g t c = λ is_known bytes own ready is_back.
    back_first (split c.args.files.now c.file-item.result c.in-len1-up.len_at_least c.file-item.is) own g.F.Folder is_known bytes ready
    (c.put_first.ensures.others is_known) (c.put_first.ensures.any_moment is_known bytes)
    (λ distinct staged. c.in-Err.ensures.back is_known bytes distinct staged is_back)

pub returns-in-Err-clause-any_moment : goal.returns-in-Err-clause-any_moment
returns-in-Err-clause-any_moment g t c = λ is_known bytes own ready.
    first_step (split c.args.files.now c.file-item.result c.in-len1-up.len_at_least c.file-item.is) own g.F.Folder is_known bytes ready
    (c.put_first.ensures.others is_known) (c.put_first.ensures.any_moment is_known bytes)

pub returns-in-Err-clause-beside : goal.returns-in-Err-clause-beside
returns-in-Err-clause-beside g t c = λ is_known own.
    beside_first (split c.args.files.now c.file-item.result c.in-len1-up.len_at_least c.file-item.is) own
    (c.put_first.ensures.others is_known) (c.in-Err.ensures.beside is_known)

pub returns-in-Ok-put_rest-clause-put : goal.returns-in-Ok-put_rest-clause-put
returns-in-Ok-put_rest-clause-put g t c = λ is_known bytes own ready.
    put_last (split c.args.files.now c.file-item.result c.in-len1-up.len_at_least c.file-item.is) own g.F.Folder is_known bytes ready
    (c.put_first.ensures.others is_known) (c.put_first.ensures.any_moment is_known bytes) (c.in-Ok.ensures.put is_known bytes)
    (c.put_rest.ensures.others is_known) (c.put_rest.ensures.any_moment is_known bytes) (c.in-Ok-put_rest.ensures.put is_known bytes)

pub returns-in-Ok-put_rest-clause-any_moment : goal.returns-in-Ok-put_rest-clause-any_moment
returns-in-Ok-put_rest-clause-any_moment g t c = λ is_known bytes own ready.
    rest_step (split c.args.files.now c.file-item.result c.in-len1-up.len_at_least c.file-item.is) own g.F.Folder is_known bytes ready
    (c.put_first.ensures.others is_known) (c.put_first.ensures.any_moment is_known bytes) (c.in-Ok.ensures.put is_known bytes)
    (c.put_rest.ensures.others is_known) (c.put_rest.ensures.any_moment is_known bytes)

pub returns-then-unput-clause-back : goal.returns-then-unput-clause-back
returns-then-unput-clause-back g t c = λ is_known bytes own ready is_back.
    back_last (split c.args.files.now c.file-item.result c.in-len1-up.len_at_least c.file-item.is) own g.F.Folder is_known bytes ready
    (c.put_first.ensures.others is_known) (c.put_first.ensures.any_moment is_known bytes) (c.in-Ok.ensures.put is_known bytes)
    (c.put_rest.ensures.others is_known) (c.put_rest.ensures.any_moment is_known bytes)
    (c.in-Ok.ensures.kept is_known bytes) (c.in-Ok.ensures.none is_known bytes)
    (λ apart staged. c.in-Err-put_rest.ensures.back is_known bytes apart staged c.if-unput.true) (c.bring_back.ensures.any_moment is_known)
    (λ at stands none. c.bring_back.ensures.stands is_known at stands none is_back) (c.bring_back.ensures.others is_known)

pub returns-then-unput-clause-any_moment : goal.returns-then-unput-clause-any_moment
returns-then-unput-clause-any_moment g t c = λ is_known bytes own ready.
    back_step (split c.args.files.now c.file-item.result c.in-len1-up.len_at_least c.file-item.is) own g.F.Folder is_known bytes ready
    (c.put_first.ensures.others is_known) (c.put_first.ensures.any_moment is_known bytes) (c.in-Ok.ensures.put is_known bytes)
    (c.put_rest.ensures.others is_known) (c.put_rest.ensures.any_moment is_known bytes)
    (c.in-Ok.ensures.kept is_known bytes) (c.in-Ok.ensures.none is_known bytes)
    (λ apart staged. c.in-Err-put_rest.ensures.back is_known bytes apart staged c.if-unput.true) (c.bring_back.ensures.any_moment is_known)

pub returns-then-unput-clause-beside : goal.returns-then-unput-clause-beside
returns-then-unput-clause-beside g t c = λ is_known own.
    beside_rest (split c.args.files.now c.file-item.result c.in-len1-up.len_at_least c.file-item.is) own (c.in-Ok.ensures.taken is_known)
    (c.put_first.ensures.others is_known) (c.put_rest.ensures.others is_known) (c.bring_back.ensures.others is_known)
    (c.in-Err-put_rest.ensures.beside is_known)

pub returns-clause-any_moment : goal.returns-clause-any_moment
returns-clause-any_moment g t c = λ is_known bytes own ready.
    rest_step (split c.args.files.now c.file-item.result c.in-len1-up.len_at_least c.file-item.is) own g.F.Folder is_known bytes ready
    (c.put_first.ensures.others is_known) (c.put_first.ensures.any_moment is_known bytes) (c.in-Ok.ensures.put is_known bytes)
    (c.put_rest.ensures.others is_known) (c.put_rest.ensures.any_moment is_known bytes)

pub returns-clause-beside : goal.returns-clause-beside
returns-clause-beside g t c = λ is_known own.
    beside_rest (split c.args.files.now c.file-item.result c.in-len1-up.len_at_least c.file-item.is) own (c.in-Ok.ensures.taken is_known)
    (c.put_first.ensures.others is_known) (c.put_rest.ensures.others is_known) (λ path one two. refl) (c.in-Err-put_rest.ensures.beside is_known)
