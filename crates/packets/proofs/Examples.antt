-- Example 1 as packets, moves and worked refusals, by computation.
-- Assumes nothing.
use mathlib.Core.Path.{refl}
use Rattle.text.specs.Decimals.{decimals, decimal, number_bytes, spaced}
use Rattle.text.specs.Line.{line_of}
use Rattle.aspif.specs.Tables.{size_at, heads_at, body_words_at, bound_at, body_at, shape_sound, weights_sound, body_sound, sound_at, sound_table}
use Rattle.aspif.specs.Reading.{all_weights}
use Rattle.drupe.specs.Texts.{step_text, text_of, steps_at, steps_within}
use Rattle.packets.specs.Bytes.{little, value, signed_bytes, highest, signed_value, bytes_of, numbers_from}
use Rattle.packets.specs.Packets.{packet_of, fills, lengths_fit, with_kind, rules_from, rules_in, step_passes, steps_from, steps_in, parts_read, pair_in, reading, writing, up, down}
use Rattle.packets.specs.Examples.{Example1, Example1InTwo, Example1Moved, WeightRule, Limits, Small, Refusals}

pub example1 : Example1
unfolding decimals decimal number_bytes spaced line_of size_at heads_at body_words_at bound_at body_at shape_sound weights_sound body_sound sound_at sound_table step_text text_of steps_at steps_within little value signed_bytes highest signed_value bytes_of numbers_from packet_of fills lengths_fit with_kind rules_from rules_in step_passes steps_from steps_in parts_read pair_in reading writing
example1 = record {
  bytes = refl;
  size = refl;
  read = refl;
  table-short = refl;
  text-short = refl;
  wrote = refl;
  short = refl;
  count-0 = refl;
  rule-size = refl;
  rule-read = refl;
  rule-short = refl;
}

pub example1-in-two : Example1InTwo
unfolding decimals decimal number_bytes spaced line_of size_at heads_at body_words_at bound_at body_at shape_sound weights_sound body_sound sound_at sound_table all_weights step_text text_of steps_at steps_within little value signed_bytes highest signed_value bytes_of numbers_from packet_of fills lengths_fit with_kind rules_from rules_in step_passes steps_from steps_in parts_read pair_in reading writing up down
example1-in-two = record { bytes = refl; size = refl; read = refl; table-short = refl; wrote = refl; short = refl }

pub example1-moved : Example1Moved
unfolding decimals decimal number_bytes spaced line_of size_at heads_at body_words_at bound_at body_at shape_sound weights_sound body_sound sound_at sound_table all_weights step_text text_of steps_at steps_within little value signed_bytes highest signed_value bytes_of numbers_from packet_of fills lengths_fit with_kind rules_from rules_in step_passes steps_from steps_in parts_read pair_in reading writing up down
example1-moved = record { goes-up = refl; up-short = refl; goes_down = refl; with-zeros = refl; down-short = refl; two_up = refl; one_down = refl }

pub weight-rule : WeightRule
unfolding decimals decimal number_bytes spaced line_of size_at heads_at body_words_at bound_at body_at shape_sound weights_sound body_sound sound_at sound_table all_weights step_text text_of steps_at steps_within little value signed_bytes highest signed_value bytes_of numbers_from packet_of fills lengths_fit with_kind rules_from rules_in step_passes steps_from steps_in parts_read pair_in reading writing up down
weight-rule = record { passes = refl; refused-53 = refl; no_output = refl; wrote = refl; short = refl; down-61 = refl; tail = refl; letter = refl }

pub limits : Limits
unfolding decimals decimal number_bytes spaced line_of size_at heads_at body_words_at bound_at body_at shape_sound weights_sound body_sound sound_at sound_table all_weights step_text text_of steps_at steps_within little value signed_bytes highest signed_value bytes_of numbers_from packet_of fills lengths_fit with_kind rules_from rules_in step_passes steps_from steps_in parts_read pair_in reading writing up down
limits = record { rule-61 = refl; step-61 = refl; goes_down = refl; down-short = refl; one = refl; two = refl; atom = refl; step = refl }

pub small : Small
unfolding decimals decimal number_bytes spaced line_of size_at heads_at body_words_at bound_at body_at shape_sound weights_sound body_sound sound_at sound_table all_weights step_text text_of steps_at steps_within little value signed_bytes highest signed_value bytes_of numbers_from packet_of fills lengths_fit with_kind rules_from rules_in step_passes steps_from steps_in parts_read pair_in reading writing up down
small = record { empty = refl; lengths = refl; cut = refl; version-0 = refl; version-3 = refl }

pub refusals : Refusals
unfolding decimals decimal number_bytes spaced line_of size_at heads_at body_words_at bound_at body_at shape_sound weights_sound body_sound sound_at sound_table step_text text_of steps_at steps_within little value signed_bytes highest signed_value bytes_of numbers_from packet_of fills lengths_fit with_kind rules_from rules_in step_passes steps_from steps_in parts_read pair_in reading writing
refusals = record {
  nothing = refl;
  version = refl;
  lengths = refl;
  tail = refl;
  empty = refl;
  many = refl;
  numbers = refl;
  letter = refl;
  rule = refl;
}
