-- What the crate's functions answer and leave.
use Rattle.std.specs.Prelude.{Bool, true, false, List, ℕ, ◌+◌, ◌-◌, eqb, leb, Option, Some, None, Result, Ok, Err}
use Rattle.laws.specs.Tests.{pick}
use Rattle.laws.specs.Tables.{Outcome}
use Rattle.rules.specs.Numbers.{format1}
use Rattle.rules.specs.Entries.{field, cpu_layout, cpu_says, released, stolen}
use Rattle.entries.specs.Sizes.{shape_of}
use Rattle.entries.specs.Turns.{Turn, looks, stores, within, entry_read}
use Rattle.cpu_entries.specs.Types.{Tree, CpuEntry, Fault, Size, CpuFields, Held, Claimed, Again, Stolen}
use Rattle.cpu_entries.specs.Turns.{on_cpu}

-- the fields of an entry, as the code splits them
abbrev pub cpu_fields : ℕ → CpuFields
cpu_fields x =
    record {
      present = field (cpu_layout format1) 0 x;
      tree = field (cpu_layout format1) 1 x;
      start = field (cpu_layout format1) 2 x;
      count = field (cpu_layout format1) 3 x;
      zero = field (cpu_layout format1) 4 x;
    }

-- what an entry has besides tree t, if it holds t
abbrev pub held_as : Tree → Result CpuEntry Fault → Result (Option Held) Fault
held_as t (Ok CpuEntry.Absent) = Ok None
held_as t (Ok (CpuEntry.Holds u s k)) = Ok (pick (eqb u.0 t.0) (Some (record { start = s; count = k })) None)
held_as t (Err x) = Err x

module _ (m : Size) where
  -- what the entry says
  unfoldable pub look_cpu_in : ℕ → List ℕ → Result CpuEntry Fault
  look_cpu_in j l = entry_read (cpu_says (shape_of m)) j l

  -- the same of entry j
  unfoldable pub held_in : ℕ → Tree → List ℕ → Result (Option Held) Fault
  held_in j t l = held_as t (look_cpu_in j l)

  abbrev pub cpu_step : {A : Type 0} → ℕ → Turn CpuEntry (Result A Fault) → (Tree → ℕ → ℕ → Turn CpuEntry (Result A Fault)) → List ℕ → Outcome (Result A Fault)
  cpu_step j a f l = within (Err Fault.NoEntry) j l (on_cpu (shape_of m) (Err Fault.Damaged) j a f l)

  -- what is done with the entry if it holds tree t
  abbrev pub if_holds : {A : Type 0} → A → ℕ → Tree → (ℕ → ℕ → Turn CpuEntry (Result A Fault)) → List ℕ → Outcome (Result A Fault)
  if_holds missed j t f = cpu_step j (looks (Ok missed)) (λ u b k. pick (eqb u.0 t.0) (f b k) (looks (Ok missed)))

  -- rule 1: a count of at least s loses s, the claim
  abbrev pub claim_own_in : ℕ → ℕ → List ℕ → Outcome (Result Claimed Fault)
  claim_own_in j s = cpu_step j (looks (Ok Claimed.Absent)) (λ t b k. pick (leb s k) (stores (CpuEntry.Holds t b (k - s)) (Ok (Claimed.Claimed t b))) (looks (Ok (Claimed.Short t))))

  -- the count rises
  abbrev pub add_own_in : ℕ → Tree → ℕ → List ℕ → Outcome (Result Bool Fault)
  add_own_in j t a = if_holds false j t (λ b k. stores (CpuEntry.Holds t b (k + a)) (Ok true))

  -- rule 1, the second look: the claim, or the release
  abbrev pub claim_or_release_in : ℕ → Tree → ℕ → List ℕ → Outcome (Result Again Fault)
  claim_or_release_in j t s = if_holds Again.Missed j t (λ b k. pick (leb s k) (stores (CpuEntry.Holds t b (k - s)) (Ok (Again.Claimed b))) (stores released (Ok (Again.Released k))))

  -- rule 2: the entry becomes absent
  abbrev pub release_in : ℕ → Tree → List ℕ → Outcome (Result (Option ℕ) Fault)
  release_in j t = if_holds None j t (λ b k. stores released (Ok (Some k)))

  -- rule 3: the entry anew, with start child 0
  abbrev pub write_in : ℕ → Tree → ℕ → List ℕ → Outcome (Result Unit Fault)
  write_in j t k = cpu_step j (stores (CpuEntry.Holds t 0 k) (Ok tt)) (λ u b q. stores (CpuEntry.Holds t 0 k) (Ok tt))

  -- rule 4: a present entry becomes absent
  abbrev pub steal_in : ℕ → List ℕ → Outcome (Result (Option Stolen) Fault)
  steal_in j = cpu_step j (looks (Ok None)) (λ t b k. stores stolen (Ok (Some (record { tree = t; count = k }))))

  -- rule 6: the start child
  abbrev pub set_start_in : ℕ → Tree → ℕ → List ℕ → Outcome (Result Bool Fault)
  set_start_in j t c = if_holds false j t (λ b k. stores (CpuEntry.Holds t c k) (Ok true))
