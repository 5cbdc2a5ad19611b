-- What several proofs of the crate import, passed on to all of them.
pub use Rattle.pocsag_command_cases.specs.CrashFolders.{AreGone, ArePlaced, ArePlacesSame, AreTwo, FolderLeaves, FolderLeftSince, IsChanged, LeavesChanges, changed, folder_held, standing, stands_after}
unfoldable pub use Rattle.pocsag_command_cases.specs.Disks.{LeftAt, moment_after}
pub use Rattle.pocsag_command_cases.specs.Disks.{DiskLeftSince, LeavesFrom, LeftSince, disk_moment, disk_synced, lines_length, text_bytes, text_front}
pub use Rattle.pocsag_command_cases.specs.declared.crash_disk.Text.{Text}
pub use Rattle.pocsag_command_cases.specs.declared.crash_folder.Change.{Change}
pub use Rattle.pocsag_journal.specs.Moments.{Elapses}
pub use Rattle.pocsag_shell.specs.Folders.{FailsTwice, HaveOwnPaths, IsBack, IsGone, IsOnDisk, IsPut, IsSame, IsSameBut, IsSameButTwo, IsStaged, Left, MayGo, MayMove, StepsBy, Stored, on_disk, place_of, staged_at}
pub use Rattle.pocsag_shell.specs.declared.staged_file.StagedFile.{StagedFile}
pub use Rattle.pocsag_words.specs.Devices.{HasFailed, TookPrefix}
pub use Rattle.std.proofs.Common.{Bool, List, None, Option, Some, [], ap, append-nil, append_assoc, arith, bytes_eq, drop, false, if◌then◌else◌, inl, inr, length, length-append, option_map, refl, rules, slice_index_or, string_bytes, subst, suc, sym, take, take-append-drop, true, zero, ℕ, ⊎_elim, ◌++◌, ◌+◌, ◌-◌, ◌<◌, ◌∙◌, ◌∷◌, ◌≡◌, ◌≢◌, ◌≤◌, ◌⊎◌}
pub use Rattle.std.proofs.lemmas.List.{take-append-le, take_all}
