-- What several proofs of the crate import, passed on to all of them.
pub use Rattle.pocsag_shell.specs.ErrorStreams.{EndedWell, EndedWith, printed_by}
pub use Rattle.pocsag_shell.specs.Folders.{HaveOwnPaths, IsBack, IsDistinct, IsGone, IsNoPathOf, IsOnDisk, IsPut, IsSame, IsSameBut, IsSameButKept, IsSameButTwo, IsStaged, KeepsNone, Left, MayGo, MayMove, MayPut, MayPutAll, ShareNoPath, StandBeside, StepsBy, Stored, kept_at, on_disk, place_of, staged_at}
unfoldable pub use Rattle.pocsag_shell.specs.Notes.{plain}
pub use Rattle.pocsag_shell.specs.Notes.{numbered_text}
pub use Rattle.pocsag_shell.specs.Runs.{IsAnswerOf, IsStreamOf, Ran, Work, answering}
pub use Rattle.pocsag_shell.specs.Runs.Ran.{done, lost, refused, stopped}
pub use Rattle.pocsag_shell.specs.declared.error_stream.ErrorStream.{ErrorStream}
pub use Rattle.pocsag_shell.specs.declared.folder.Folder.{Ghosts}
pub use Rattle.pocsag_shell.specs.declared.staged_file.StagedFile.{StagedFile}
pub use Rattle.pocsag_words.specs.Devices.{Delivers, HasFailed, TookPrefix}
pub use Rattle.std.proofs.Common.{Bool, Bor, Err, IsFalse, List, None, Ok, Option, Result, [], ap, arith, below_more, drop, drop_of_length-le, false, get_or, inl, inr, length, length-append, length-take, map, refl, rules, slice_index_or, subst, suc, sym, take, true, zero, ℕ, ⊎_elim, ◌++◌, ◌+◌, ◌-◌, ◌<◌, ◌^◌, ◌↔◌, ◌∙◌, ◌∷◌, ◌≡◌, ◌≢◌, ◌≤◌, ◌⊎◌}
pub use Rattle.std.proofs.Math.Seq.{drop-append_seam, get_or-append_seam, take-append_seam}
pub use Rattle.std.proofs.lemmas.List.{append_assoc, append_cancel_right, drop-drop, drop_more, get_or-map, length-take-le, take-append-drop, take-append-le, take_all, take_rest}
pub use Rattle.std.specs.Prelude.{IfNone, IfSome, Some, codes, nat_eq, slice_get}
pub use Rattle.std.specs.Result.{IfErr, IfOk, IsErr, OnErr, OnOk, result_ok}
