-- What several proofs of the crate import, passed on to all of them.
unfoldable pub use Rattle.pocsag_pager.specs.Shown.{is_ours}
pub use Rattle.pocsag_pager.specs.Shown.{AreShown, HoldsOnceMended, IsMended, ShowsSome, page_called, run_of, said, shown_from}
pub use Rattle.pocsag_pager.specs.States.{Continues, HasFollowed, HasHeard, HaveEnded, IsElsewhere, IsOver, ended_from, is_run, open_from, pager_address}
pub use Rattle.pocsag_pager.specs.Turns.{IsHeardAs, ending, next_open}
pub use Rattle.pocsag_pager.specs.declared.pager.State.{State}
pub use Rattle.pocsag_pager.specs.declared.pager.State.TheVariants.{Listening}
pub use Rattle.pocsag_pages.proofs.Lengths.{body_length, synced_count, synced_small, unsynced_codeword, unsynced_count, unsynced_more, unsynced_sync, words_again, words_long}
unfoldable pub use Rattle.pocsag_pages.specs.Bytes.{bytes_of}
pub use Rattle.pocsag_pages.specs.Bytes.{after_preamble, body_bytes, leading, sync_word, synced, unsynced, words_of}
pub use Rattle.pocsag_pages.specs.Reading.{AreApart, IsLegalList, Reads, frame_at}
pub use Rattle.pocsag_pages.specs.declared.page.Page.{Page}
pub use Rattle.pocsag_words.specs.Codeword.{HasNoneNear, IsCodeword, IsNear, IsOnlyNear}
pub use Rattle.pocsag_words.specs.Kinds.{idle_word, kind_of}
pub use Rattle.pocsag_words.specs.declared.codeword.Kind.{Kind}
pub use Rattle.pocsag_words.specs.declared.codeword.Kind.TheVariants.{Address, Idle, Message}
pub use Rattle.std.proofs.Common.{All, Bool, Contains, Err, List, [], ap, append_assoc, ap₂, arith, cond, drop, eqb-true, false, filter, get_or, inl, inr, length, length-append, map, nat_eq, nat_lt, not, refl, subst, suc, sym, take, take-add, true, zero, ℕ, ◌%◌, ◌&&◌, ◌*◌, ◌++◌, ◌+◌, ◌-◌, ◌/◌, ◌<◌, ◌^◌, ◌↔◌, ◌∙◌, ◌∷◌, ◌≡◌, ◌≢◌, ◌≤◌, ◌⊎◌}
pub use Rattle.std.proofs.lemmas.Bool.{cases_Bool, cases_eq, eq-eqb, false≢true, le-ltb, ne_eqb}
pub use Rattle.std.proofs.lemmas.List.{append-nil, drop-drop, length-drop, length-map, length-take, map-append, take-append-drop, take_all, take_more}
pub use Rattle.std.proofs.lemmas.List.Elements.{All-cons, All-drop, All-from_get_or, All-head, All-nil, All-tail, All-take}
pub use Rattle.std.proofs.lemmas.Result.{IfOk-weaker, MatchResult-from_both, err_from_is_err_and}
pub use Rattle.std.specs.Int.{from_be_bytes, w32}
pub use Rattle.std.specs.List.{AllZip}
pub use Rattle.std.specs.Prelude.{IsSome, None, OnErr, OnOk, Option, Some, option_to_list}
