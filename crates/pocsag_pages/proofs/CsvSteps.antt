-- How csv's machine steps through a text of the default dialect.
use Rattle.pocsag_pages.proofs.Prelude.{◌≡◌, ℕ, ◌==◌, ◌||◌, Bool, true, false, refl, if◌then◌else◌, in_field, is_end, step, default_config, Action, State}
use Rattle.csv.specs.declared.parser.Action.TheVariants as act
use Rattle.csv.specs.declared.parser.State.TheVariants as st

-- in a field
abbrev pub IsInside : State → Type 0
IsInside st.StartRecord = ⊥
IsInside st.StartField = Unit {0}
IsInside st.InField = Unit {0}
IsInside st.InQuoted = Unit {0}
IsInside st.AfterQuote = Unit {0}
IsInside st.InEscape = ⊥
IsInside st.InComment = ⊥
IsInside st.AfterCr = ⊥

-- a step that ends no record stays inside, and one that ends a field starts the next
abbrev pub StaysInside : State × Action → Type 0
StaysInside p = is_end p.1 ≡ false → IsInside p.0

abbrev pub StartsField : State × Action → Type 0
StartsField p = p.1 ≡ act.EndField → p.0 ≡ st.StartField

-- what holds of both sides of a choice
pub either : (P : State × Action → Type 0) (b : Bool) (p q : State × Action) → P p → P q → P (if b then p else q)
either P true p q h k = h
either P false p q h k = k

-- what holds of each step of a field that no quote stands around
pub bare_step : (P : State × Action → Type 0) (c : ℕ) → P (st.StartField, act.EndField)
    → ((b : Bool) → P (if b then st.AfterCr else st.StartRecord, act.EndRecord)) → P (st.InField, act.Copy)
    → P (in_field default_config c)
bare_step P c comma end copy =
    either P (c == 44) (st.StartField, act.EndField) _ comma
    (either P ((c == 13) || (c == 10)) (if c == 13 then st.AfterCr else st.StartRecord, act.EndRecord) (st.InField, act.Copy)
    (end (c == 13)) copy)

-- what holds of each step, as it holds of each that skips the byte and of each that copies it
module _ (P : State × Action → Type 0) (comma : P (st.StartField, act.EndField))
    (end : (b : Bool) → P (if b then st.AfterCr else st.StartRecord, act.EndRecord))
    (skip : (s : State) → P (s, act.Skip)) (copy : (s : State) → P (s, act.Copy)) where
  field_start : (c : ℕ) → P (step default_config st.StartField c)
  field_start c = either P (c == 34) (st.InQuoted, act.Skip) _ (skip st.InQuoted) (bare_step P c comma end (copy st.InField))

  record_start : (c : ℕ) → P (step default_config st.StartRecord c)
  record_start c = either P ((c == 13) || (c == 10)) (st.StartRecord, act.Skip) _ (skip st.StartRecord) (field_start c)

  each_step : (s : State) (c : ℕ) → P (step default_config s c)
  each_step st.StartRecord c = record_start c
  each_step st.StartField c = field_start c
  each_step st.InField c = bare_step P c comma end (copy st.InField)
  each_step st.InQuoted c =
      either P (c == 34) (st.AfterQuote, act.Skip) (st.InQuoted, act.Copy) (skip st.AfterQuote) (copy st.InQuoted)
  each_step st.AfterQuote c =
      either P (c == 34) (st.InQuoted, act.Copy) _ (copy st.InQuoted) (bare_step P c comma end (copy st.InField))
  each_step st.InEscape c = copy st.InQuoted
  each_step st.InComment c =
      either P (c == 10) (st.StartRecord, act.Skip) (st.InComment, act.Skip) (skip st.StartRecord) (skip st.InComment)
  each_step st.AfterCr c = either P (c == 10) (st.StartRecord, act.Skip) _ (skip st.StartRecord) (record_start c)

pub starts_field : (s : State) (c : ℕ) → StartsField (step default_config s c)
starts_field = each_step StartsField (λ e. refl) (λ b e. cc) (λ s e. cc) (λ s e. cc)

bare_stays : (c : ℕ) → StaysInside (in_field default_config c)
bare_stays c = bare_step StaysInside c (λ e. tt) (λ b e. cc) (λ e. tt)

pub stays_inside : (s : State) (c : ℕ) → IsInside s → StaysInside (step default_config s c)
stays_inside st.StartRecord c h = absurd h
stays_inside st.StartField c h = either StaysInside (c == 34) (st.InQuoted, act.Skip) _ (λ e. tt) (bare_stays c)
stays_inside st.InField c h = bare_stays c
stays_inside st.InQuoted c h =
    either StaysInside (c == 34) (st.AfterQuote, act.Skip) (st.InQuoted, act.Copy) (λ e. tt) (λ e. tt)
stays_inside st.AfterQuote c h = either StaysInside (c == 34) (st.InQuoted, act.Copy) _ (λ e. tt) (bare_stays c)
stays_inside st.InEscape c h = absurd h
stays_inside st.InComment c h = absurd h
stays_inside st.AfterCr c h = absurd h
