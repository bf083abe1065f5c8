-- Lemmas on lists, keys and tests that proofs of crates above use, passed on from one place. Declares nothing.
pub use Rattle.plant_base.proofs.PutKeepsOrder.{all_push, all_put, all_weaker, found_new, found_put, found_same, map_alike, map_back, put_kept, put_map, put_there, sorted_put}
pub use Rattle.plant_base.proofs.KeyOrders.{id_still, id_tie, id_total, key_itself, lot_order_total, place_order_total, place_tie, same_id, same_itself, same_key, same_key_tie, test_tie}
pub use Rattle.plant_base.proofs.FindIsFirst.{found_keeps, found_passes}
pub use Rattle.plant_view.proofs.RowsInTurn.{all_append, all_filtered, all_mapped, all_numbered, all_of, all_put_all, all_put_apart, all_unmapped, each_passes, filter_new_all, filter_past, filter_past_all, filter_put, filtered_passes, find_mapped, found_own, found_past, found_past_all, map_more, map_numbered, none_left, none_passes, put_last, some_mapped, sorted_mapped, sorted_numbered, sorted_put_all}
pub use Rattle.plant_view.proofs.TestsAndSums.{and_left, and_right, any_map, each_fails, not_false, not_true, sum_map}
pub use Rattle.plant_view.proofs.CommandsPreserveInvariant.{all_two}
