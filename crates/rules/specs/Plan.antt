-- A call as a plan: the answer, and at most one store. Refusals are an ordered list; a step reads one entry and changes it or not.
use Rattle.std.specs.Prelude.{Bool, true, false, List, [], ◌∷◌, ℕ, ◌+◌, ◌*◌, leb, get_or, Option, Some, None, Result, Ok, Err}
use Rattle.laws.specs.Tests.{pick, passes}
use Rattle.rules.specs.Numbers.{child_words, Shape, per_tree, capacity}
use Rattle.rules.specs.Entries.{holds_checks}
use Rattle.rules.specs.Lower.{Change, keep, become, Lowered}
use Rattle.rules.specs.Zone.{Zone, Store, nothing, word, child, tree, cpu, child_part, word_part, tree_entry_at, cpu_entry_at}
use Rattle.rules.specs.Types.{Tree, Block, TreeEntry, CpuEntry, Took, Fault, Answer}

-- a taking store and a clearing store, with their block
pub data Mark : Type 0 where
  plain : Mark
  takes : (b : Block) → Mark
  clears : (b : Block) → Mark

pub record Plan : Type 0 where
  pub store : Store
  pub answer : Answer
  pub mark : Mark

abbrev pub says : Store → Answer → Plan
says s a = record { store = s; answer = a; mark = plain }

-- a refused call stores nothing
abbrev pub refuse : Answer → Plan
refuse a = says nothing a

-- ---- refusals, in document 01's order: the first whose test holds answers
pub record Refusal : Type 0 where
  pub test : Bool
  pub answer : Answer

abbrev pub on : Bool → Answer → Refusal
on t a = record { test = t; answer = a }

unfoldable pub guarded : List Refusal → Plan → Plan
guarded [] p = p
guarded (x ∷ l) p = pick x.test (refuse x.answer) (guarded l p)

-- ---- a step of a get or put, by the one entry that it reads
pub record Made (A : Type 0) : Type 0 where
  pub change : Change A
  pub answer : Answer
  pub mark : Mark

-- nothing is stored; v is stored
abbrev pub look : {A : Type 0} → Answer → Made A
look a = record { change = keep; answer = a; mark = plain }

abbrev pub store : {A : Type 0} → A → Answer → Made A
store v a = record { change = become v; answer = a; mark = plain }

pub record Tally : Type 0 where
  pub reserved : ℕ
  pub count : ℕ

abbrev pub tally : ℕ → ℕ → Tally
tally r k = record { reserved = r; count = k }

pub data Step : Type 0 where
  -- no entry
  no_entry : (a : Answer) → Step
  -- CPU j's entry: absent, or with its tree, start child and count
  cpu_entry : (j : ℕ) (a : Made CpuEntry) (f : Tree → ℕ → ℕ → Made CpuEntry) → Step
  -- tree t's entry: r and count
  tree_entry : (t : Tree) (f : ℕ → ℕ → Made Tally) → Step
  -- child c, and word i, of tree t's part
  child_entry : (t : Tree) (c : ℕ) (f : ℕ → Made ℕ) → Step
  word_entry : (t : Tree) (i : ℕ) (f : ℕ → Made ℕ) → Step

-- ---- a step carried out

unfoldable pub by_change : {A B : Type 0} → Change A → B → (A → B) → B
by_change keep k f = k
by_change (become v) k f = f v

unfoldable pub by_cpu : {A : Type 0} → Option CpuEntry → A → A → (Tree → ℕ → ℕ → A) → A
by_cpu None d a f = d
by_cpu (Some CpuEntry.Absent) d a f = a
by_cpu (Some (CpuEntry.Holds t s k)) d a f = f t s k

unfoldable pub by_tree : {A : Type 0} → Option TreeEntry → A → (ℕ → ℕ → A) → A
by_tree None d f = d
by_tree (Some e) d f = f e.reserved e.count

-- the entry to be stored keeps its layout
unfoldable pub laid_out : Shape → CpuEntry → Bool
laid_out g e = by_cpu (Some e) false true (λ t s k. passes (holds_checks g t s k))

abbrev pub made : {A : Type 0} → Store → Made A → Plan
made s m = record { store = s; answer = m.answer; mark = m.mark }

-- an entry read, or one to be stored, that breaks its layout: 12 (D9, D21, D39)
unfoldable pub to_cpu : Shape → ℕ → Made CpuEntry → Plan
to_cpu g j m = by_change m.change (made nothing m) (λ e. pick (laid_out g e) (made (cpu j e) m) (refuse Answer.Damaged))

unfoldable pub to_tree : Shape → Tree → Made Tally → Plan
to_tree g t m = by_change m.change (made nothing m) (λ x. pick (leb x.count (capacity g t.0)) (made (tree t.0 x.reserved x.count) m) (refuse Answer.Damaged))

-- the lower level answers for its own entries
unfoldable pub to_child : Shape → Tree → ℕ → Made ℕ → Plan
to_child g t c m = by_change m.change (made nothing m) (λ v. made (child (t.0 * per_tree g + c) v) m)

unfoldable pub to_word : Shape → Tree → ℕ → Made ℕ → Plan
to_word g t i m = by_change m.change (made nothing m) (λ v. made (word (child_words * (t.0 * per_tree g) + i) v) m)

unfoldable pub carried : Shape → Zone → Step → Plan
carried g z (no_entry a) = refuse a
carried g z (cpu_entry j a f) = by_cpu (cpu_entry_at g z j) (refuse Answer.Damaged) (to_cpu g j a) (λ t s k. to_cpu g j (f t s k))
carried g z (tree_entry t f) = by_tree (tree_entry_at g z t) (refuse Answer.Damaged) (λ r k. to_tree g t (f r k))
carried g z (child_entry t c f) = to_child g t c (f (get_or (child_part g z t) c 0))
carried g z (word_entry t i f) = to_word g t i (f (get_or (word_part g z t) i 0))

-- ---- what the lower level said, with its change

abbrev pub lowered : {A : Type 0} → Lowered A → Answer → Mark → Made ℕ
lowered l a m = record { change = l.change; answer = a; mark = m }

unfoldable pub by_took : {A : Type 0} → Result Took Fault → A → A → A → A
by_took (Ok Took.Taken) t p d = t
by_took (Ok Took.Passed) t p d = p
by_took (Err f) t p d = d

unfoldable pub by_bit : {A : Type 0} → Option ℕ → (ℕ → A) → A → A
by_bit (Some b) f a = f b
by_bit None f a = a

unfoldable pub by_gave : {A : Type 0} → Result Unit Fault → A → A → A → A
by_gave (Ok tt) g n d = g
by_gave (Err Fault.NotTaken) g n d = n
by_gave (Err Fault.Damaged) g n d = d
by_gave (Err Fault.NoEntry) g n d = d
by_gave (Err Fault.NoChild) g n d = d
by_gave (Err Fault.NoWord) g n d = d
by_gave (Err Fault.NoBit) g n d = d
by_gave (Err Fault.NoField) g n d = d
by_gave (Err Fault.TooMany) g n d = d

abbrev pub on_took : Lowered (Result Took Fault) → Answer → Mark → Answer → Made ℕ
on_took l a m p = by_took l.said (lowered l a m) (lowered l p plain) (lowered l Answer.Damaged plain)

abbrev pub on_bit : Lowered (Option ℕ) → (ℕ → Answer) → (ℕ → Mark) → Answer → Made ℕ
on_bit l a m p = by_bit l.said (λ b. lowered l (a b) (m b)) (lowered l p plain)

abbrev pub on_gave : Lowered (Result Unit Fault) → Answer → Mark → Made ℕ
on_gave l a m = by_gave l.said (lowered l a m) (lowered l Answer.NotTaken plain) (lowered l Answer.Damaged plain)
