-- Every definition on the way of a call, opened by one name: `unfolding by-computation` lets a closed run compute.
use Rattle.laws.specs.Fields.{width, split, join}
use Rattle.laws.specs.Sum.{sum_to}
use Rattle.laws.specs.Tests.{pick, every, passes}
use Rattle.laws.specs.Words.{zeros, lowest}
use Rattle.rules.specs.Blocks.{run_size}
use Rattle.rules.specs.Begin.{is_order, run_of, order_of, begin_get, begin_put}
use Rattle.rules.specs.Checks.{is_malformed, is_clean, is_running}
use Rattle.rules.specs.Create.{create_zone, create_stage, create_act, create_step}
use Rattle.rules.specs.Entries.{field, header_says, header_word, tree_says, tree_word, cpu_says, cpu_word}
use Rattle.rules.specs.Give.{clear, give}
use Rattle.rules.specs.Lower.{child_says, count_word, flagged_word, by_child, claim, take_huge, give_count, clear_huge, take_run, clear_run, fresh_word, fresh_child, well_formed, is_flagged, count_in, recount, zero_bits, empty_field, part_sum}
use Rattle.rules.specs.Numbers.{trees_of, children_of}
use Rattle.rules.specs.Open.{children_formed, flags_empty, trees_formed, cpus_formed, child_settled, tree_count, cpu_count, child_count, tree_settled, settled, open_sound, open_zone, opening_sound, open_step_sound, open_stage, open_act, open_step, close_sound, close_zone}
use Rattle.rules.specs.Places.{class_of, fits, after_pass, after_steal, after_place}
use Rattle.rules.specs.Plan.{guarded, by_change, by_cpu, by_tree, laid_out, to_cpu, to_tree, to_child, to_word, carried, by_took, by_bit, by_gave}
use Rattle.rules.specs.Ranges.{pass_in, found_in, place_in, taking_in, giving_in, creating_in, opening_in, step_range, create_range, open_range}
use Rattle.rules.specs.Step.{act, step, follow, search_steps}
use Rattle.rules.specs.Take.{claim_own, release, write, steal_count, next_child, search_child, search_word, take}
use Rattle.rules.specs.Zone.{header_of, header_huge, stored}

unfoldable pub by_computation : Unit {0}
unfolding width split join sum_to pick every passes zeros lowest run_size is_order run_of order_of begin_get begin_put is_malformed is_clean is_running create_zone create_stage create_act create_step field header_says header_word tree_says tree_word cpu_says cpu_word clear give child_says count_word flagged_word by_child claim take_huge give_count clear_huge take_run clear_run fresh_word fresh_child well_formed is_flagged count_in recount zero_bits empty_field part_sum trees_of children_of children_formed flags_empty trees_formed cpus_formed child_settled tree_count cpu_count child_count tree_settled settled open_sound open_zone opening_sound open_step_sound open_stage open_act open_step close_sound close_zone class_of fits after_pass after_steal after_place guarded by_change by_cpu by_tree laid_out to_cpu to_tree to_child to_word carried by_took by_bit by_gave pass_in found_in place_in taking_in giving_in creating_in opening_in step_range create_range open_range act step follow search_steps claim_own release write steal_count next_child search_child search_word take header_of header_huge stored
by_computation = tt
