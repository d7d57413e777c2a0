-- What a line makes of records.
use Rattle.std.specs.Prelude.{◌≡◌, ℕ, ◌++◌, ◌⊎◌, IsTrue, List, [], Option, None, Some, codes}
use Rattle.std.specs.List.{All, Any}
use Rattle.radpolicy_traffic.specs.Lines.{IsEndOf}
use Rattle.radpolicy_traffic.specs.declared.open_records.OpenRecord.{OpenRecord}
use Rattle.radpolicy_traffic.specs.declared.records.Record.{Record}
use Rattle.radpolicy_traffic.specs.declared.records.Reply.{Reply}

-- The lines of a record's lists.
pub record Texts : Type 0 where
  pub request : List ℕ
  pub reply : List ℕ
  pub initial_reply : List ℕ
  pub initial_control : List ℕ

abbrev pub reply_lines : Option Reply → List ℕ
reply_lines None = []
reply_lines (Some reply) = reply.lines.items

abbrev pub texts_of : Record → Texts
texts_of given = record {
  request = given.request.items;
  reply = reply_lines given.reply;
  initial_reply = given.initial_reply.items;
  initial_control = given.initial_control.items;
}

abbrev pub no_texts : Texts
no_texts = record { request = []; reply = []; initial_reply = []; initial_control = [] }

-- The lines are as they were; or the line that was given has come to them, without its front.
abbrev pub IsGrownText : List ℕ → List ℕ → List ℕ → Type 0
IsGrownText line old new =
    (new ≡ old) ⊎ ((text : List ℕ) × IsEndOf line text × (new ≡ old ++ text ++ codes "\n"))

pub record AreGrown (line : List ℕ) (old : Texts) (new : Texts) : Type 0 where
  pub request : IsGrownText line old.request new.request
  pub reply : IsGrownText line old.reply new.reply
  pub initial_reply : IsGrownText line old.initial_reply new.initial_reply
  pub initial_control : IsGrownText line old.initial_control new.initial_control

-- A record whose lines were these before the line that was given. One that is too long has none.
unfoldable pub IsGrown : List ℕ → Texts → Record → Type 0
IsGrown line old new =
    (IsTrue new.is_too_long × (texts_of new ≡ no_texts)) ⊎ AreGrown line old (texts_of new)

-- The lines of the lists are the same.
pub record KeepsTexts (old : Record) (new : Record) : Type 0 where
  pub texts : texts_of new ≡ texts_of old
  pub is_too_long : new.is_too_long ≡ old.is_too_long

-- A record that has begun with the line that was given, or one of those that were open before it.
unfoldable pub IsFrom : List ℕ → List OpenRecord → Record → Type 0
IsFrom line olds new =
    IsGrown line no_texts new ⊎ Any (λ old. IsGrown line (texts_of old.record) new) olds

-- All open records are such.
unfoldable pub AreFrom : List ℕ → List OpenRecord → List OpenRecord → Type 0
AreFrom line olds news = All (λ new. IsFrom line olds new.record) news
