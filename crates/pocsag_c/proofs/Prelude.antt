-- What several proofs of the crate import, passed on to all of them.
pub use Rattle.pocsag_c.specs.Answers.{PrintsFault, number_of_end}
pub use Rattle.pocsag_c.specs.Fronts.{IsFront, IsWithoutFront}
pub use Rattle.pocsag_c.specs.Readings.{AreReadAs}
pub use Rattle.pocsag_c.specs.declared.refusal.StatusAt.{StatusAt}
unfoldable pub use Rattle.pocsag_decode.specs.PageFiles.{page_file}
pub use Rattle.pocsag_decode.specs.PageFiles.{IsSpellable, page_record}
pub use Rattle.pocsag_pages.proofs.GoodPages.{good_page, good_pages}
pub use Rattle.pocsag_pages.specs.Bytes.{after_preamble, leading}
unfoldable pub use Rattle.pocsag_pages.specs.PageFile.{page_of_fields}
pub use Rattle.pocsag_pages.specs.PageFile.{verdict}
unfoldable pub use Rattle.pocsag_pages.specs.Pages.{is_reserved}
pub use Rattle.pocsag_pages.specs.Pages.{AreGood, IsGoodPage, IsRound, last_address, page_limit}
pub use Rattle.pocsag_pages.specs.declared.page.Page.{Page}
pub use Rattle.pocsag_plan.specs.Plans.{IsPlanFor}
pub use Rattle.pocsag_tree.specs.CertificateText.{IsText}
pub use Rattle.pocsag_words.specs.declared.ending.End.{End}
pub use Rattle.std.proofs.Common.{All, Bool, Err, IfOk, List, None, Ok, Option, Result, Some, Vec, [], ap, arith, drop, inl, inr, length, nat_lt, not, refl, subst, sym, ℕ, ◌%◌, ◌++◌, ◌==◌, ◌∙◌, ◌∷◌, ◌≡◌, ◌≢◌, ◌≤◌, ◌⊎◌}
pub use Rattle.std.proofs.lemmas.List.Elements.{All-drop, All-push, All-weaker}
pub use Rattle.std.specs.Global.{Global}
pub use Rattle.std.specs.Prelude.{IsTrue, if◌then◌else◌}
