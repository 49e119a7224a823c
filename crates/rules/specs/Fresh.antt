-- Create run to its end leaves the fresh zone; while it is under way the header is 0, and every other call answers 9. An open that is not refused ends, in its steps.
use Rattle.std.specs.Prelude.{◌≡◌, List, [], ◌∷◌, ℕ, zero, suc, ◌*◌, ◌<◌, replicate}
use Rattle.laws.specs.Tests.{pick, Passes}
use Rattle.rules.specs.Types.{Frame, Record, Answer}
use Rattle.rules.specs.Numbers.{child_words, Shape, trees_of, capacity}
use Rattle.rules.specs.Answers.{number}
use Rattle.rules.specs.Entries.{header_word, running, tree_word}
use Rattle.rules.specs.Lower.{fresh_word, fresh_child}
use Rattle.rules.specs.Zone.{Zone, header_of, shaped, shape_of}
use Rattle.rules.specs.Checks.{header_checks, length_checks, is_running}
use Rattle.rules.specs.Begin.{begin_get, begin_put}
use Rattle.rules.specs.Step.{step, after, Ran, follow}
use Rattle.rules.specs.Create.{done, size_checks, create_zone, create_step, create_steps}
use Rattle.rules.specs.Open.{open_zone, open_step, open_steps, close_zone}

-- f 0 first, n entries
unfoldable pub listed : ℕ → (ℕ → ℕ) → List ℕ
listed zero f = []
listed (suc n) f = f 0 ∷ listed n (λ i. f (suc i))

-- every frame free, every counter right, every CPU absent
unfoldable pub fresh : Shape → Zone
fresh g = record {
  header = header_word running g.huge ∷ [];
  words = replicate (child_words * g.huge) fresh_word;
  children = replicate g.huge fresh_child;
  trees = listed (trees_of g) (λ t. tree_word 0 (capacity g t));
  cpus = replicate g.cpus 0;
}

-- n from 1 to 65,536, and tables of the lengths for n, whatever they hold
pub record Fitting (n : ℕ) (z : Zone) : Type 0 where
  pub size : Passes (size_checks n)
  pub header : Passes (header_checks z)
  pub tables : Passes (length_checks (shaped n z) z)

-- create's first step, and at most `fuel` later ones
abbrev pub creates : ℕ → Zone → ℕ → Ran
creates n z fuel = follow (create_step n) fuel 1 (create_zone n z).answer (after z (create_zone n z))

pub record Created (n : ℕ) (z : Zone) : Type 0 where
  pub answer : (creates n z (create_steps (shaped n z))).answer ≡ done
  pub steps : (creates n z (create_steps (shaped n z))).steps ≡ create_steps (shaped n z)
  pub zone : (creates n z (create_steps (shaped n z))).zone ≡ fresh (shaped n z)
  -- after its first store and before its last
  pub unborn : (k : ℕ) → suc k < create_steps (shaped n z) → (creates n z k).zone.header ≡ 0 ∷ []

-- every call but create and its later steps, on a header slice of length 1 that holds 0
pub record Unborn (z : Zone) : Type 0 where
  pub get : (cpu o : ℕ) → (begin_get z cpu o).answer ≡ Answer.NotAZone
  pub put : (cpu : ℕ) (f : Frame) (o : ℕ) → (begin_put z cpu f o).answer ≡ Answer.NotAZone
  pub step : (r : Record) → (step z r).answer ≡ Answer.NotAZone
  pub opens : (open_zone z).answer ≡ Answer.NotAZone
  pub open_step : (r : Record) → (open_step z r).answer ≡ Answer.NotAZone
  pub close : (close_zone z).answer ≡ Answer.NotAZone

-- open's first step, and at most `fuel` later ones
abbrev pub opens : Zone → ℕ → Ran
opens z fuel = follow open_step fuel 1 (open_zone z).answer (after z (open_zone z))

-- with a running marker the children are counted too
abbrev pub steps_of_open : Zone → ℕ
steps_of_open z = open_steps (shape_of z) (pick (is_running (header_of z)) (shape_of z).huge 0)

pub record Opened (z : Zone) : Type 0 where
  pub answer : (opens z (steps_of_open z)).answer ≡ done
  pub steps : (opens z (steps_of_open z)).steps ≡ steps_of_open z

pub record Runs : Type 0 where
  pub create : (n : ℕ) (z : Zone) → Fitting n z → Created n z
  pub unborn : (z : Zone) → z.header ≡ 0 ∷ [] → Unborn z
  pub open' : (z : Zone) → number (open_zone z).answer ≡ 1 → Opened z
