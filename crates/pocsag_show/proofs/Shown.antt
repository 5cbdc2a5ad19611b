-- What a text that was written, or a part of it, says of the bytes.
use Rattle.pocsag_show.proofs.Prelude.{◌≡◌, ◌≢◌, ℕ, List, map, Result, Ok, Err, refl, sym, subst, inl, inr, arith, IfErr, OnOk, kind_of, Page, took_so_far, NamesFailures, ReadsAs, EmitsAll, Explains, IsTextOf, Shows, ShowsLess, ShowsPart, view_text, View}
use Rattle.pocsag_words.specs.declared.device.Sink.{Ghosts as Writer}
use Rattle.pocsag_show.specs.declared.fault.ShowFault.{ShowFault}
use Rattle.pocsag_show.specs.declared.fault.ShowFault.TheVariants as fault
use Rattle.pocsag_show.proofs.Texts.{view_some}

-- nothing was written
pub shows_nothing : (view : View) (X taken : List ℕ) (pages : List Page) → ReadsAs X pages → ShowsLess (view_text view) X taken taken
shows_nothing view X taken pages reading =
    let all = view_text view (map kind_of reading.codewords) pages in
    record {
      shown = all;
      is_text = record { pages = pages; reading = reading; text = refl };
      taken = took_so_far taken taken all all (omega arith) refl;
      less = let some = view_some view (map kind_of reading.codewords) pages in omega arith;
    }

module _ {S : Type 0} (Out : Writer S) (start now : S) (view : View) (X : List ℕ) (pages : List Page) (reading : ReadsAs X pages) where
  abbrev all : List ℕ
  all = view_text view (map kind_of reading.codewords) pages

  is_text : IsTextOf (view_text view) X all
  is_text = record { pages = pages; reading = reading; text = refl }

  pub shows : (r : Result Unit ShowFault) → EmitsAll Out r start now all → Out.is_known
      → OnOk r (Shows (view_text view) X (Out.taken start) (Out.taken now))
  shows (Ok x) p k = record { shown = all; is_text = is_text; taken = p.taken k }
  shows (Err f) p k = tt

  pub shows_part : (r : Result Unit ShowFault) → EmitsAll Out r start now all → Out.is_known → r ≡ Err fault.WriteFault
      → ShowsPart (view_text view) X (Out.taken start) (Out.taken now)
  shows_part (Ok x) p k e = absurd (cc)
  shows_part (Err f) p k e = record { shown = all; is_text = is_text; taken = p.took k }

  pub shows_less : (r : Result Unit ShowFault) → EmitsAll Out r start now all → Out.is_known → r ≡ Err fault.OutOfMemory
      → ShowsLess (view_text view) X (Out.taken start) (Out.taken now)
  shows_less (Ok x) p k e = absurd (cc)
  shows_less (Err f) p k e = record { shown = all; is_text = is_text; taken = p.took k; less = p.short (cc) k }

  pub explained : (r : Result Unit ShowFault) → EmitsAll Out r start now all → IfErr r (Explains X)
  explained (Ok x) p = tt
  explained (Err f) p =
      elim p.kind [
        | inl e ↦ subst (Explains X) (sym e) (pages, reading)
        | inr e ↦ subst (Explains X) (sym e) (pages, reading)
      ]

  pub others_none : (r : Result Unit ShowFault) → EmitsAll Out r start now all
      → IfErr r (λ e. e ≢ fault.WriteFault → e ≢ fault.OutOfMemory → now ≡ start)
  others_none (Ok x) p = tt
  others_none (Err f) p = λ n m. elim p.kind [ inl e ↦ absurd (n e) | inr e ↦ absurd (m e) ]

  pub failures_named : (r : Result Unit ShowFault) → EmitsAll Out r start now all
      → NamesFailures r fault.WriteFault (Out.failures start) (Out.failures now)
  failures_named (Ok x) p = (p.failures, λ e. absurd (cc))
  failures_named (Err f) p = (tt, λ e. p.failed (cc))
