-- Structures that need no notice: 77.9(e).
use Rattle.std.specs.Prelude.{int_le, not, ◌&&◌, Bool, true, false, Option, Some, None, if◌then◌else◌}
use Rattle.airfields.specs.Sites.{Site}
use Rattle.airfields.specs.declared.structure.StructureKind.{StructureKind}
use Rattle.airfields.specs.declared.structure.StructureKind.TheVariants as kinds
use Rattle.notice_slopes.specs.declared.without_notice.TheConstants.{LOW_ANTENNA}
use Rattle.notice_slopes.specs.declared.exemption.Exemption.{Exemption}
use Rattle.notice_slopes.specs.declared.exemption.Exemption.TheVariants.{Shielded, Device, OtherRule, Antenna}

abbrev pub is_antenna : StructureKind → Bool
is_antenna kinds.Object = false
is_antenna kinds.Antenna = true
is_antenna kinds.Interstate = false
is_antenna kinds.Road = false
is_antenna kinds.Private = false
is_antenna kinds.Rail = false
is_antenna kinds.Water = false

-- an antenna structure of 20 feet or less in height, except one that would increase the height of another antenna structure
abbrev pub is_low_antenna : Site → Bool
is_low_antenna s = is_antenna s.kind && int_le s.height LOW_ANTENNA && not s.flags.increases

-- the first of the four that applies: (1) shielded, (2) a device, (3) under another regulation, (4) a low antenna
abbrev pub exemption_of : Site → Option Exemption
exemption_of s =
    if s.flags.shielded then Some Shielded else
    if s.flags.device then Some Device else
    if s.flags.other_rule then Some OtherRule else
    if is_low_antenna s then Some Antenna else None
