use Rattle.std.proofs.Common.{◌≡◌, ◌<◌, ◌^◌, drop}
use Rattle.std.specs.Str.Parse.{digits_value, digits_value_after}
use Rattle.http_messages.proofs.frame.number_of.Given as goal

abbrev pub invariant-loop-byte : goal.invariant-loop-byte
invariant-loop-byte l = record {
  value : digits_value_after 10 l.total (drop l.byte-index l.text) ≡ digits_value 10 l.text;
  small : l.total < 10 ^ l.byte-index;
}
