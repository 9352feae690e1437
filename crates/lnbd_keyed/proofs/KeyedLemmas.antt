-- The lemmas on maps, by one name.
pub use Rattle.lnbd_keyed.proofs.OrderLaws.{IsAbove_less, IsAbove_without, IsAbove_with, IsAbove_pair, IsAbove_append, IsAbove_left, IsAbove_right, IsAbove_at, IsAbove_of}
pub use Rattle.lnbd_keyed.proofs.OrderLaws.{IsBelow_less, IsBelow_without, IsBelow_with, IsBelow_pair, IsBelow_append, IsBelow_left, IsBelow_right, IsBelow_at, IsBelow_of}
pub use Rattle.lnbd_keyed.proofs.OrderLaws.{IsRising_without, IsRising_with, IsRising_pair, IsRising_append, IsRising_left, IsRising_right, first_key_least, first_key_below}
pub use Rattle.lnbd_keyed.proofs.LookupLaws.{value_at_pair, value_at_pair_other, value_at_with, value_at_with_some, value_at_with_other, value_at_above, value_at_below, value_at_without, value_at_without_other, value_at_head, value_at_tail}
pub use Rattle.lnbd_keyed.proofs.LookupLaws.{value_at_last, value_at_last_other, value_at_left, value_at_right, value_at_not_left, value_at_first, value_at_filter, with_value_none, without_none}
pub use Rattle.lnbd_keyed.proofs.LookupLaws.{with_value_twice, without_with, with_pair_twice, with_value_pair, with_pair_held, without_pair, length_with, length_without, length_pair, keys_with, keys_held, length_keys, keys-append}
pub use Rattle.lnbd_keyed.proofs.PlaceLaws.{with_value_set, without_remove, place_value, value_at_row, with_value_row, place_within, rank_le, rank_above, rank_below, rank_place, rank_held, rank_end, rank_other, with_pair_insert}
pub use Rattle.lnbd_keyed.proofs.SameMap.{same_map, with_pair_swap}
pub use Rattle.lnbd_keyed.proofs.Parts.{without_head, with_value_head, with_pair_head, with_value_last, without_last, with_pair_last, without_right, with_value_right, with_pair_right}
