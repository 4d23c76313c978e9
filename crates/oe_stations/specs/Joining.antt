-- The stations of a way: points along one road, railroad, waterway or other traverse way of 77.9(c).
use Rattle.std.specs.Prelude.{◌≡◌, ◌<◌, List, [], ◌∷◌, length, IsTrue, ⊤}
use Rattle.airfields.specs.Sites.{Site, is_traverse_way}
use Rattle.oe_stations.specs.declared.way.TheConstants.{MOST_STATIONS}
use Rattle.oe_stations.specs.declared.way.WayRefusal.{WayRefusal}
use Rattle.oe_stations.specs.declared.way.WayRefusal.TheVariants.{WayFull, WayMixed, NotAWay, NoMemory}

-- both are of one kind, with the same height of a mobile object, the same flags, and on the same airfield
pub record AreAlike (a b : Site) : Type 0 where
  pub kind : a.kind ≡ b.kind
  pub mobile : a.mobile ≡ b.mobile
  pub flags : a.flags ≡ b.flags
  pub on : a.on ≡ b.on

-- the station is like the first one of the way, where the way has one
abbrev pub IsAlike : List Site → Site → Type 0
IsAlike [] site = ⊤
IsAlike (first ∷ rest) site = AreAlike first site

-- the site may be the next station
pub record CanJoin (way : List Site) (site : Site) : Type 0 where
  pub traverse : IsTrue (is_traverse_way site.kind)
  pub alike : IsAlike way site
  pub room : length way < MOST_STATIONS

-- the first of the rules in this order that the site breaks: it is no traverse way, it is unlike the first station, the way is full;
-- memory is refused only to a site that breaks none
abbrev pub IsRefused : List Site → Site → WayRefusal → Type 0
IsRefused way site NotAWay = ¬ IsTrue (is_traverse_way site.kind)
IsRefused way site WayMixed = IsTrue (is_traverse_way site.kind) × ¬ IsAlike way site
IsRefused way site WayFull = IsTrue (is_traverse_way site.kind) × IsAlike way site × (length way ≡ MOST_STATIONS)
IsRefused way site NoMemory = CanJoin way site
