-- The text that lists a stream of entry words.
use Rattle.std.specs.Prelude.{◌≡◌, ℕ, suc, List, [], ◌∷◌, ◌++◌, length, codes, decimal}
use Rattle.words.specs.declared.entry.Entry.{Entry}
use Rattle.words.specs.declared.fault.Fault.{Fault}
use Rattle.words.specs.declared.fault.Fault.TheVariants.{Unreadable, Unfinished}
use Rattle.words.specs.Faults.{refused_text}
use Rattle.words.specs.Lines.{line_of}
use Rattle.words.specs.Streams.{Cut}
use Rattle.words.specs.Words.{Stands}

-- the line of an entry at an index: the index, a space, the entry
abbrev pub entry_line : ℕ → Entry → List ℕ
entry_line i e = decimal i ++ (codes " " ++ (line_of e ++ codes "\n"))

-- the line of a refusal at an index: the refusal, `at`, the index
abbrev pub refused_line : Fault → ℕ → List ℕ
refused_line fault i = refused_text fault ++ (codes " at " ++ (decimal i ++ codes "\n"))

-- the line of the word w at the index i: the entry that w stands for, or a refusal where it stands for none
pub data Line (i w : ℕ) (line : List ℕ) : Type 0 where
  stands : (e : Entry) → Stands e w → line ≡ entry_line i e → Line i w line
  unreadable : ((e : Entry) → Stands e w → ⊥) → line ≡ refused_line Unreadable i → Line i w line

-- the lines of words, the first at the index i
abbrev pub Lines : ℕ → List ℕ → List ℕ → Type 0
Lines i [] text = text ≡ []
Lines i (w ∷ ws) text = (line : List ℕ) × (rest : List ℕ) × (text ≡ line ++ rest) × Line i w line × Lines (suc i) ws rest

-- the line of the bytes that are left over after n words: none where nothing is left
abbrev pub unfinished : List ℕ → ℕ → List ℕ
unfinished [] n = []
unfinished (b ∷ bs) n = refused_line Unfinished n

-- the text lists the stream: the lines of its whole words, and then that of what is left over
pub record Listed (bytes text : List ℕ) : Type 0 where
  pub words : List ℕ
  pub rest : List ℕ
  pub cut : Cut bytes words rest
  pub lines : List ℕ
  pub listed : Lines 0 words lines
  pub whole : text ≡ lines ++ unfinished rest (length words)
