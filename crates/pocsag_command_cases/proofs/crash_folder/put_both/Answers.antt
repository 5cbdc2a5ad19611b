use Rattle.pocsag_command_cases.proofs.Prelude.{◌≡◌, ℕ, inl, inr, ⊎_elim, slice_index_or, List, ◌∷◌, [], ap, subst, ◌∙◌, HasFailed, FailsTwice, staged_at, StagedFile, standing}
use Rattle.pocsag_command_cases.proofs.CrashFolders.{both_back, both_gone, both_placed, both_staged}
use Rattle.pocsag_command_cases.proofs.crash_folder.put_both.Goals as goal

-- the first of two files, and the second
first_is : (files : List StagedFile) (file one two : StagedFile) → file ≡ slice_index_or files 0 file → files ≡ one ∷ two ∷ [] → file ≡ one
first_is files file one two is are = is ∙ ap (λ (all : List StagedFile). slice_index_or all 0 file) are

second_is : (files : List StagedFile) (file one two : StagedFile) → file ≡ slice_index_or files 1 file → files ≡ one ∷ two ∷ [] → file ≡ two
second_is files file one two is are = is ∙ ap (λ (all : List StagedFile). slice_index_or all 1 file) are

pub returns-in-Ok-put_files-clause-put : goal.returns-in-Ok-put_files-clause-put
returns-in-Ok-put_files-clause-put c = λ one two are.
    both_placed are c.args.folder.now c.add.new.self c.add-2.new.self (c.as_str.ensures.value ∙ ap staged_at (first_is _ _ one two c.one-item.is are.0))
    (c.as_str-2.ensures.value ∙ ap staged_at (second_is _ _ one two c.two-item.is are.0)) c.in-Ok.ensures.others c.in-Ok-add.ensures.others
    c.put_files.new.folder c.args.first.now c.args.second.now c.in-Ok.ensures.stands c.in-Ok-add.ensures.stands
    (c.in-Ok-put_files.ensures.put tt (standing c.add-2.new.self.changes.items) are.1 (both_staged are c.add-2.new.self c.in-Ok-add.ensures.safe))

pub returns-in-Ok-put_files-clause-gone : goal.returns-in-Ok-put_files-clause-gone
returns-in-Ok-put_files-clause-gone c = λ one two are. ⊎_elim
    (λ all. inl (both_gone are c.put_files.new.folder all))
    (λ failed. inr (subst (λ (n : ℕ). HasFailed n c.put_files.new.folder.failures) (c.add-2.ensures.failures ∙ c.add.ensures.failures) failed))
    (c.in-Ok-put_files.ensures.gone tt (standing c.add-2.new.self.changes.items) are.1 (both_staged are c.add-2.new.self c.in-Ok-add.ensures.safe))

pub returns-in-Err-clause-back : goal.returns-in-Err-clause-back
returns-in-Err-clause-back c = λ one two are. ⊎_elim
    (λ all. inl (both_back are c.args.folder.now c.add.new.self c.add-2.new.self (c.as_str.ensures.value ∙ ap staged_at (first_is _ _ one two c.one-item.is are.0))
    (c.as_str-2.ensures.value ∙ ap staged_at (second_is _ _ one two c.two-item.is are.0)) c.in-Ok.ensures.others c.in-Ok-add.ensures.others
    c.put_files.new.folder all))
    (λ twice. inr (subst (λ (n : ℕ). FailsTwice n c.put_files.new.folder.failures) (c.add-2.ensures.failures ∙ c.add.ensures.failures) twice))
    (c.in-Err.ensures.back tt (standing c.add-2.new.self.changes.items) are.1 (both_staged are c.add-2.new.self c.in-Ok-add.ensures.safe))
