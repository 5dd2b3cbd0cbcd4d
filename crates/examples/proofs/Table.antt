-- The table holds: each row computes to what is stated. Assumes nothing.
use mathlib.Core.Path.{refl}
use Rattle.sets.specs.Ranges.{every_to, any_to, sum_to, max_to, list_to}
use Rattle.sets.specs.Lists.{same_list}
use Rattle.sets.specs.Sets.{bit, without, part, meets, every_pair, set_of, union_to, gathered, count_in, count}
use Rattle.sets.specs.Articles.{taking, giving_up}
use Rattle.sets.specs.First.{first_from}
use Rattle.reading.specs.Got.{each_at, up_from}
use Rattle.reading.specs.Items.{kind_at, value_at, number_at, count_at, map_at, set_at, field_at, length_at, name_at}
use Rattle.jobfile.specs.Layout.{choice, fitting, kinds, layout_in}
use Rattle.jobfile.specs.Read.{fields_at, record_at, body_at, layout_at, read, read_job}
use Rattle.jobfile.specs.Write.{bytes_of, field_bytes, name_bytes, fields_bytes, parts_bytes, map_of, joined, write_record, write_each, write_all, write_body, write}
use Rattle.unicode_forms.specs.Table as Unicode
use Rattle.unicode_forms.specs.Canonical.{reorderable}
use Rattle.unicode_forms.specs.Forms as Forms
use Rattle.names.specs.Names.{same_name}
use Rattle.changes.specs.Change.{alter}
use Rattle.text.specs.Text.{digits, members, round_texts}
use Rattle.network.specs.Network.{clash, together}
use Rattle.network.specs.Groups.{misplaced, first_misplaced, suits, opened, joins, groups_to}
use Rattle.filter.specs.Filter.{outside, bad_goal, first_bad, share, contribution, total, others, supported, pass, passes, set_aside, falls_short, first_short}
use Rattle.choice.specs.Choice.{is_cover, smallest}
use Rattle.fair.specs.Fair.{entries}
use Rattle.pricing.specs.Prices.{signed, amount_to, is_selection, is_cheapest, cheapest}
use Rattle.pricing.specs.Prices as Prices
use Rattle.planning.specs.Rounds.{disturb, after, is_round, leads, leads_in, fewest}
use Rattle.planning.specs.Layers.{mutexes, opposed, stands, rivals, standing, round_over, givers, excluded, given_by, facts_over, fact_layer}
use Rattle.examples.specs.Table.{Hold, rows}

pub table : Hold rows
unfolding every_to any_to sum_to max_to list_to bit without part meets every_pair set_of union_to gathered count_in count taking giving_up first_from each_at up_from kind_at value_at number_at count_at map_at set_at field_at length_at name_at choice fitting kinds layout_in fields_at record_at body_at layout_at read read_job bytes_of field_bytes name_bytes fields_bytes parts_bytes map_of joined write_record write_each write_all write_body write alter clash together misplaced first_misplaced suits opened joins groups_to outside bad_goal first_bad share contribution total others supported pass passes set_aside falls_short first_short is_cover smallest disturb after is_round leads leads_in fewest mutexes opposed stands rivals standing round_over givers excluded given_by facts_over fact_layer same_list Unicode.table reorderable Forms.text_of Forms.apart Forms.inserted Forms.ordered same_name digits members round_texts signed amount_to Prices.total is_selection is_cheapest cheapest entries
table = (refl, (refl, (refl, (refl, (refl, (refl, (refl, (refl, (refl, (refl, (refl, (refl, (refl, (refl, (refl, (refl, (refl, (refl, (refl, (refl, (refl, (refl, (refl, (refl, (refl, (refl, (refl, (refl, (refl, (refl, (refl, (refl, (refl, (refl, (refl, (refl, (refl, (refl, (refl, (refl, (refl, (refl, (refl, (refl, (refl, (refl, (refl, (refl, (refl, (refl, (refl, (refl, (refl, (refl, (refl, (refl, (refl, (refl, (refl, (refl, (refl, (refl, (refl, (refl, (refl, (refl, (refl, (refl, (refl, (refl, (refl, (refl, (refl, (refl, (refl, (refl, (refl, (refl, (refl, (refl, (refl, (refl, (refl, (refl, (refl, (refl, (refl, (refl, (refl, (refl, (refl, (refl, (refl, (refl, (refl, (refl, (refl, (refl, (refl, (refl, (refl, (refl, (refl, (refl, (refl, (refl, (refl, (refl, (refl, (refl, (refl, (refl, (refl, (refl, (refl, (refl, (refl, (refl, (refl, (refl, (refl, (refl, (refl, (refl, (refl, (refl, (refl, (refl, (refl, (refl, (refl, (refl, (refl, (refl, (refl, (refl, (refl, (refl, (refl, (refl, (refl, (refl, (refl, (refl, (refl, (refl, (refl, (refl, (refl, (refl, (refl, (refl, (refl, (refl, (refl, (refl, (refl, (refl, (refl, (refl, (refl, (refl, (refl, (refl, (refl, (refl, (refl, (refl, (refl, (refl, (refl, (refl, (refl, (refl, (refl, (refl, (refl, (refl, (refl, (refl, tt))))))))))))))))))))))))))))))))))))))))))))))))))))))))))))))))))))))))))))))))))))))))))))))))))))))))))))))))))))))))))))))))))))))))))))))))))))))))))))))))))))))))))))))))))))
