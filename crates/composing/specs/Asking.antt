-- What a line of text asks for.
use Rattle.std.specs.Prelude.{◌≡◌, ℕ, cond, List, [], ◌∷◌, Some, None, Ok, Err, Option, Result, ◌≢◌, slice_index}
use Rattle.std.specs.Str.{all_ascii_digits}
use Rattle.words.specs.declared.entry.Entry.{Entry}
use Rattle.words.specs.declared.kind.Kind.{Kind}
use Rattle.words.specs.Kinds.{kind_of, name_of}
use Rattle.words.specs.Words.{Stands}
use Rattle.composing.specs.declared.expected.Expected.{Expected}
use Rattle.composing.specs.declared.expected.Expected.TheVariants.{Name, Numbers, Fit}
use Rattle.text.specs.Runs.{pieces}
use Rattle.composing.specs.Spelling.{Spells}

-- a line is skipped where it has no pieces, or its first begins with `#`
abbrev pub Skipped : List (List ℕ) → Type 0
Skipped [] = Unit {0}
Skipped (p ∷ ps) = slice_index p 0 ≡ 35

-- the pieces after an index, if there is one: a piece of digits alone
abbrev pub after_index : List (List ℕ) → List (List ℕ)
after_index [] = []
after_index (p ∷ ps) = cond (all_ascii_digits p) ps (p ∷ ps)

-- what pieces lack that spell no entry, or one that fits no word
abbrev pub Lacks : List (List ℕ) → Expected → Type 0
Lacks ps Name = (k : Kind) (rest : List (List ℕ)) → ps ≢ name_of k ∷ rest
Lacks ps (Numbers k) = ((rest : List (List ℕ)) × (ps ≡ name_of k ∷ rest)) × ((e : Entry) → Spells ps e → ⊥)
Lacks ps (Fit k) = (e : Entry) × (kind_of e ≡ k) × Spells ps e × ((w : ℕ) → Stands e w → ⊥)

-- the answer to a line: none where it is skipped; else the word of the entry that it spells, or what it lacks
abbrev pub Answered : List ℕ → Result (Option ℕ) Expected → Type 0
Answered line (Ok None) = Skipped (pieces line)
Answered line (Ok (Some w)) = (Skipped (pieces line) → ⊥) × ((e : Entry) × Spells (after_index (pieces line)) e × Stands e w)
Answered line (Err x) = (Skipped (pieces line) → ⊥) × Lacks (after_index (pieces line)) x
