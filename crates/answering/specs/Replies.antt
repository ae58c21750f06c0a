-- What is replied to the lines of a text.
use Rattle.std.specs.Prelude.{◌≡◌, ℕ, List, [], ◌∷◌, ◌++◌, ℤ, Some, None, Ok, Err, codes, Option, Result, ◌≢◌}
use Rattle.std.specs.Fmt.{signed_decimal}
use Rattle.exact.specs.declared.bounds.Bounds.{Bounds}
use Rattle.laws.specs.declared.fault.Fault.{Fault}
use Rattle.laws.specs.Faults.{refused_text}
use Rattle.text.specs.Runs.{lines_of, pieces}
use Rattle.questions.specs.declared.law.Law.{Law}
use Rattle.answering.specs.declared.reply.Reply.{Reply}
use Rattle.answering.specs.declared.reply.Reply.TheVariants.{Stress, Refused, Unreadable}
use Rattle.questions.specs.Questions.{Asks, AsksNothing}
use Rattle.answering.specs.Answering.{Answered}

-- the line asks a question that is answered so
pub record LineAnswered (line : List ℕ) (r : Result Bounds Fault) : Type 0 where
  pub law : Law
  pub numbers : List ℤ
  pub n : ℤ
  pub m : ℤ
  pub asks : Asks (pieces line) law numbers n m
  pub answered : Answered law numbers n m r

-- the reply to a line: none where it has no pieces; else the answer to what it asks, or that it asks nothing
abbrev pub Replied : List ℕ → Option Reply → Type 0
Replied line None = pieces line ≡ []
Replied line (Some (Stress bounds)) = LineAnswered line (Ok bounds)
Replied line (Some (Refused e)) = LineAnswered line (Err e)
Replied line (Some Unreadable) = (pieces line ≢ []) × AsksNothing (pieces line)

-- a reply in bytes: the floor and the ceiling, or the number of the refusal
abbrev pub reply_text : Reply → List ℕ
reply_text (Stress bounds) = signed_decimal bounds.floor ++ (codes " " ++ signed_decimal bounds.ceiling)
reply_text (Refused e) = refused_text e
reply_text Unreadable = codes "unreadable"

-- a reply has a line to itself
abbrev pub reply_line : Option Reply → List ℕ
reply_line None = []
reply_line (Some reply) = reply_text reply ++ codes "\n"

-- the bytes are what is printed for a line
abbrev pub Printed : List ℕ → List ℕ → Type 0
Printed line bytes = (o : Option Reply) × Replied line o × (bytes ≡ reply_line o)

-- the bytes are what is printed for the lines, in order
unfoldable pub Lines : List (List ℕ) → List ℕ → Type 0
Lines [] bytes = bytes ≡ []
Lines (l ∷ ls) bytes = (first : List ℕ) × (rest : List ℕ) × (bytes ≡ first ++ rest) × Printed l first × Lines ls rest

-- the bytes are what is printed for the lines of the text
abbrev pub RepliedAll : List ℕ → List ℕ → Type 0
RepliedAll text bytes = Lines (lines_of text) bytes
