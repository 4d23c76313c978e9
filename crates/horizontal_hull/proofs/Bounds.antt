-- A tapered capsule lies in the box of its two centers, each grown by its radius.
use Rattle.std.proofs.Common.{◌≡◌, ◌⊎◌, inl, inr, Bool, true, false, ℕ, suc, ℤ, pos, negsuc, ◌+◌, ◌-◌, ◌*◌, ◌<◌, ◌≤◌, ◌+ℤ◌, ◌-ℤ◌, ◌*ℤ◌, ◌≤ℤ◌, neg_ℤ, unsigned_abs, arith, refl, ap, ◌∙◌, subst}
use Rattle.std.specs.Prelude.{MatchBool, nat_le}
use Rattle.std.proofs.Math.Nat.{mul-le-mul, mul-le-mul_left}
use Rattle.std.proofs.Math.IntN.{*ℤ_comm}
use Rattle.std.proofs.lemmas.Bool.{cases_lt}
use Rattle.std.proofs.lemmas.Int.{ints, by_lt_z}
use Rattle.grid_exact.specs.declared.point.Point.{Point}
use Rattle.grid_exact.specs.Root.{AtLeastRoot, AtMostRoot}
use Rattle.grid_exact.specs.Vector.{along_of, across_of, length_of}
use Rattle.grid_exact.proofs.IntLaws.{abs_neg, cancel, mul-add, mul-neg, neg-mul, sub-mul}
use Rattle.grid_exact.proofs.RootSums.{AtMostRoot-scale, AtMostRoot_add, at_zero, in_nn, le_from_squares, times_root}
use Rattle.grid_exact.proofs.Vectors.{lagrange_most}
use Rattle.horizontal_hull.specs.declared.edge.Edge.TheVariants.{Closed}
use Rattle.horizontal_hull.specs.Arcs.{ArcShape}
use Rattle.horizontal_hull.specs.Capsules.{InCapsule, InTapered, flare}

-- ---- |ey| * sqrt(T) is at most DD + p * ex
twice_product : (a b : ℕ) → 2 * (a * b) ≤ a * a + b * b
twice_product a b =
    elim (cases_lt a b) [
      | inl l ↦ (let u : ℕ = b - a in let e : b ≡ a + u = omega arith in omega (arith, ap (λ z. z * b) e, ap (λ z. a * z) e, ap (λ z. u * z) e))
      | inr l ↦ (let u : ℕ = a - b in let e : a ≡ b + u = omega arith in omega (arith, ap (λ z. z * a) e, ap (λ z. b * z) e, ap (λ z. u * z) e))
    ]

key_up : (a b p T : ℕ) → T + p * p ≡ a * a + b * b → b * b * T ≤ (a * a + b * b + p * a) * (a * a + b * b + p * a)
key_up a b p T e = omega (arith, ap (λ z. b * b * z) e)

key_down : (a b p T K : ℕ) → T + p * p ≡ a * a + b * b → K + p * a ≡ a * a + b * b → b * b * T ≤ K * K
key_down a b p T K e k =
    omega (arith, ap (λ z. b * b * z) e, ap (λ z. K * z) k, ap (λ z. z * (p * a)) k, ap (λ z. z * (a * a + b * b)) k, mul-le-mul_left (a * a) (twice_product p a), mul-le-mul_left (b * b) (twice_product p a))

-- ---- the band between the tangents
-- s = e . v, q = |e x v|, d = DD; the radii are r and r + p
pub record Band (s : ℤ) (q d r p : ℕ) : Type 0 where
  pub after : AtMostRoot (neg_ℤ (pos (p * q))) s (d - p * p)
  pub before : AtMostRoot (pos (p * q)) (pos d -ℤ s) (d - p * p)
  pub under : AtLeastRoot (pos (r * d) +ℤ pos p *ℤ s) (pos q) (d - p * p)

-- what the sums come to; K = DD + p * ex, and F is the size of ex + p
ahead_sum : (s vx : ℤ) (q b d r p F : ℕ) (ex : ℤ) → ex ≡ pos F -ℤ pos p → (pos d *ℤ vx) ≤ℤ (s *ℤ ex +ℤ pos (q * b)) →
    pos 0 ≤ℤ (pos (r * d) +ℤ pos p *ℤ s +ℤ neg_ℤ (pos (q * b)) +ℤ pos F *ℤ (pos d -ℤ s)) →
    (pos d *ℤ vx) ≤ℤ (pos d *ℤ (pos r +ℤ pos F))
ahead_sum s vx q b d r p F ex e l h =
    let e1 : s *ℤ ex ≡ s *ℤ (pos F -ℤ pos p) = ap (λ z. s *ℤ z) e in
    let e2 = *ℤ_comm s (pos F -ℤ pos p) in
    let e3 = sub-mul (pos F) (pos p) s in
    let e4 = *ℤ_comm (pos F) (pos d -ℤ s) in
    let e5 = sub-mul (pos d) s (pos F) in
    let e6 = *ℤ_comm s (pos F) in
    let e7 = mul-add (pos d) (pos r) (pos F) in
    omega (arith, ints, e1, e2, e3, e4, e5, e6, e7, l, h)

behind_sum : (s vx : ℤ) (q b d r p F : ℕ) (ex : ℤ) → ex ≡ neg_ℤ (pos F) -ℤ pos p → (pos d *ℤ vx) ≤ℤ (s *ℤ ex +ℤ pos (q * b)) →
    pos 0 ≤ℤ (pos (r * d) +ℤ pos p *ℤ s +ℤ neg_ℤ (pos (q * b)) +ℤ pos F *ℤ s) →
    (pos d *ℤ vx) ≤ℤ (pos d *ℤ pos r)
behind_sum s vx q b d r p F ex e l h =
    let e1 : s *ℤ ex ≡ s *ℤ (neg_ℤ (pos F) -ℤ pos p) = ap (λ z. s *ℤ z) e in
    let e2 = *ℤ_comm s (neg_ℤ (pos F) -ℤ pos p) in
    let e3 = sub-mul (neg_ℤ (pos F)) (pos p) s in
    let e4 = *ℤ_comm (neg_ℤ (pos F)) s in
    let e5 = *ℤ_comm s (pos F) in
    let e6 = mul-neg s (pos F) in
    omega (arith, ints, e1, e2, e3, e4, e5, e6, l, h)

-- the root of ey * ey * T is at most DD + p * ex, a natural
pub record Key (ex ey : ℤ) (p T : ℕ) : Type 0 where
  pub size : ℕ
  pub is : pos size ≡ pos (length_of ex ey) +ℤ pos p *ℤ ex
  pub large : unsigned_abs ey * unsigned_abs ey * T ≤ size * size

key : (ex ey : ℤ) (p T : ℕ) → T + p * p ≡ length_of ex ey → Key ex ey p T
key (pos a) ey p T e = record { size = a * a + unsigned_abs ey * unsigned_abs ey + p * a; is = omega (arith, ints); large = key_up a (unsigned_abs ey) p T e }
key (negsuc a) ey p T e =
    let b = unsigned_abs ey in
    let m : (p * suc a) * (p * suc a) ≤ length_of (negsuc a) ey * length_of (negsuc a) ey =
    (let pp : p * p ≤ length_of (negsuc a) ey = omega arith in let aa : suc a * suc a ≤ length_of (negsuc a) ey = omega arith in omega (arith, mul-le-mul pp aa)) in
    let le : p * suc a ≤ length_of (negsuc a) ey = le_from_squares (p * suc a) (length_of (negsuc a) ey) m in
    let K : ℕ = length_of (negsuc a) ey - p * suc a in
    let k : K + p * suc a ≡ suc a * suc a + b * b = omega arith in
    record { size = K; is = omega (arith, ints, k); large = key_down (suc a) b p T K e k }

-- a point of the band lies no farther east than one of the discs
band_east : (ex ey vx vy : ℤ) (r p : ℕ) → p * p < length_of ex ey → Band (along_of ex ey vx vy) (unsigned_abs (across_of ex ey vx vy)) (length_of ex ey) r p → (vx ≤ℤ pos r) ⊎ (vx ≤ℤ (ex +ℤ pos (r + p)))
band_east ex ey vx vy r p l h =
    let d : ℕ = length_of ex ey in
    let T : ℕ = d - p * p in
    let s : ℤ = along_of ex ey vx vy in
    let q : ℕ = unsigned_abs (across_of ex ey vx vy) in
    let b : ℕ = unsigned_abs ey in
    let eT : T + p * p ≡ d = omega arith in
    let dp : 0 < d = omega arith in
    let tp : 0 < T = omega arith in
    let K = key ex ey p T eT in
    let big = lagrange_most ex ey vx vy in
    band_east_of ex s vx q b d r p T K.size tp dp eT K.is K.large big h.after h.before h.under
  where
    band_east_of : (ex s vx : ℤ) (q b d r p T K : ℕ) → 0 < T → 0 < d → T + p * p ≡ d → pos K ≡ pos d +ℤ pos p *ℤ ex → b * b * T ≤ K * K →
        (pos d *ℤ vx) ≤ℤ (s *ℤ ex +ℤ pos (q * b)) →
        AtMostRoot (neg_ℤ (pos (p * q))) s T → AtMostRoot (pos (p * q)) (pos d -ℤ s) T → AtLeastRoot (pos (r * d) +ℤ pos p *ℤ s) (pos q) T →
        (vx ≤ℤ pos r) ⊎ (vx ≤ℤ (ex +ℤ pos (r + p)))
    band_east_of ex s vx q b d r p T K tp dp eT eK large big after before under =
        let A : ℤ = pos (r * d) +ℤ pos p *ℤ s in
        let m1 : AtMostRoot (pos (q * T)) A T = times_root A q T tp under in
        let m2 : AtMostRoot (neg_ℤ (pos (q * K))) (neg_ℤ (pos (q * b))) T = in_nn (q * K) (q * b) T (omega (arith, mul-le-mul_left (q * q) large)) in
        let m3 : AtMostRoot (pos (q * T) +ℤ neg_ℤ (pos (q * K))) (A +ℤ neg_ℤ (pos (q * b))) T = AtMostRoot_add _ _ _ _ T m1 m2 in
        by_lt_z (ex +ℤ pos p) (pos 0)
        (λ low. let F : ℕ = unsigned_abs (ex +ℤ pos p) in
        let e : ex ≡ neg_ℤ (pos F) -ℤ pos p = omega (arith, ints) in
        inl (cancel d vx (pos r) dp (behind_sum s vx q b d r p F ex e big
        (at_zero _ T tp (subst (λ z. AtMostRoot z (A +ℤ neg_ℤ (pos (q * b)) +ℤ pos F *ℤ s) T) (zero_behind q T K p F (size_behind ex d p T K F e eT eK))
        (AtMostRoot_add _ _ _ _ T m3 (AtMostRoot-scale F (neg_ℤ (pos (p * q))) s T after)))))))
        (λ high. let F : ℕ = unsigned_abs (ex +ℤ pos p) in
        let e : ex ≡ pos F -ℤ pos p = omega (arith, ints) in
        let bound : vx ≤ℤ (pos r +ℤ pos F) = cancel d vx (pos r +ℤ pos F) dp (ahead_sum s vx q b d r p F ex e big
        (at_zero _ T tp (subst (λ z. AtMostRoot z (A +ℤ neg_ℤ (pos (q * b)) +ℤ pos F *ℤ (pos d -ℤ s)) T) (zero_ahead q T K p F (size_ahead ex d p T K F e eT eK))
        (AtMostRoot_add _ _ _ _ T m3 (AtMostRoot-scale F (pos (p * q)) (pos d -ℤ s) T before))))) in
        inr (omega (arith, ints, bound, e)))
      where
        size_behind : (ex : ℤ) (d p T K F : ℕ) → ex ≡ neg_ℤ (pos F) -ℤ pos p → T + p * p ≡ d → pos K ≡ pos d +ℤ pos p *ℤ ex → K + p * F ≡ T
        size_behind ex d p T K F e t k =
            let e1 : pos p *ℤ ex ≡ pos p *ℤ (neg_ℤ (pos F) -ℤ pos p) = ap (λ z. pos p *ℤ z) e in
            let e2 = *ℤ_comm (pos p) (neg_ℤ (pos F) -ℤ pos p) in
            let e3 = sub-mul (neg_ℤ (pos F)) (pos p) (pos p) in
            let e4 = *ℤ_comm (neg_ℤ (pos F)) (pos p) in
            let e5 = mul-neg (pos p) (pos F) in
            omega (arith, ints, e1, e2, e3, e4, e5, t, k)

        size_ahead : (ex : ℤ) (d p T K F : ℕ) → ex ≡ pos F -ℤ pos p → T + p * p ≡ d → pos K ≡ pos d +ℤ pos p *ℤ ex → K ≡ T + p * F
        size_ahead ex d p T K F e t k =
            let e1 : pos p *ℤ ex ≡ pos p *ℤ (pos F -ℤ pos p) = ap (λ z. pos p *ℤ z) e in
            let e2 = *ℤ_comm (pos p) (pos F -ℤ pos p) in
            let e3 = sub-mul (pos F) (pos p) (pos p) in
            omega (arith, ints, e1, e2, e3, t, k)

        zero_behind : (q T K p F : ℕ) → K + p * F ≡ T → pos (q * T) +ℤ neg_ℤ (pos (q * K)) +ℤ pos F *ℤ neg_ℤ (pos (p * q)) ≡ pos 0
        zero_behind q T K p F e = omega (arith, ints, ap (λ z. q * z) e, mul-neg (pos F) (pos (p * q)))

        zero_ahead : (q T K p F : ℕ) → K ≡ T + p * F → pos (q * T) +ℤ neg_ℤ (pos (q * K)) +ℤ pos F *ℤ pos (p * q) ≡ pos 0
        zero_ahead q T K p F e = omega (arith, ints, ap (λ z. q * z) e)

-- ---- the other three directions, by reflection
band_west : (ex ey vx vy : ℤ) (r p : ℕ) → p * p < length_of ex ey → Band (along_of ex ey vx vy) (unsigned_abs (across_of ex ey vx vy)) (length_of ex ey) r p → (neg_ℤ (pos r) ≤ℤ vx) ⊎ ((ex -ℤ pos (r + p)) ≤ℤ vx)
band_west ex ey vx vy r p l h =
    let a : along_of (neg_ℤ ex) ey (neg_ℤ vx) vy ≡ along_of ex ey vx vy = omega (arith, ints, neg-mul ex vx) in
    let c : across_of (neg_ℤ ex) ey (neg_ℤ vx) vy ≡ neg_ℤ (across_of ex ey vx vy) = omega (arith, ints, *ℤ_comm (neg_ℤ ex) vy, mul-neg vy ex, *ℤ_comm vy ex, mul-neg ey vx) in
    let q : unsigned_abs (across_of (neg_ℤ ex) ey (neg_ℤ vx) vy) ≡ unsigned_abs (across_of ex ey vx vy) = ap unsigned_abs c ∙ abs_neg _ in
    let d : length_of (neg_ℤ ex) ey ≡ length_of ex ey = ap (λ z. z * z + unsigned_abs ey * unsigned_abs ey) (abs_neg ex) in
    elim (band_east (neg_ℤ ex) ey (neg_ℤ vx) vy r p (rw d l) (rw (a, q, d) h)) [
      | inl b ↦ inl (omega (arith, ints, b))
      | inr b ↦ inr (omega (arith, ints, b))
    ]

-- x and y change places
band_north : (ex ey vx vy : ℤ) (r p : ℕ) → p * p < length_of ex ey → Band (along_of ex ey vx vy) (unsigned_abs (across_of ex ey vx vy)) (length_of ex ey) r p → (vy ≤ℤ pos r) ⊎ (vy ≤ℤ (ey +ℤ pos (r + p)))
band_north ex ey vx vy r p l h =
    let a : along_of ey ex vy vx ≡ along_of ex ey vx vy = omega (arith, ints) in
    let c : across_of ey ex vy vx ≡ neg_ℤ (across_of ex ey vx vy) = omega (arith, ints) in
    let q : unsigned_abs (across_of ey ex vy vx) ≡ unsigned_abs (across_of ex ey vx vy) = ap unsigned_abs c ∙ abs_neg _ in
    let d : length_of ey ex ≡ length_of ex ey = omega arith in
    band_east ey ex vy vx r p (rw d l) (rw (a, q, d) h)

band_south : (ex ey vx vy : ℤ) (r p : ℕ) → p * p < length_of ex ey → Band (along_of ex ey vx vy) (unsigned_abs (across_of ex ey vx vy)) (length_of ex ey) r p → (neg_ℤ (pos r) ≤ℤ vy) ⊎ ((ey -ℤ pos (r + p)) ≤ℤ vy)
band_south ex ey vx vy r p l h =
    let a : along_of ey ex vy vx ≡ along_of ex ey vx vy = omega (arith, ints) in
    let c : across_of ey ex vy vx ≡ neg_ℤ (across_of ex ey vx vy) = omega (arith, ints) in
    let q : unsigned_abs (across_of ey ex vy vx) ≡ unsigned_abs (across_of ex ey vx vy) = ap unsigned_abs c ∙ abs_neg _ in
    let d : length_of ey ex ≡ length_of ex ey = omega arith in
    band_west ey ex vy vx r p (rw d l) (rw (a, q, d) h)

-- ---- a disc
disc_along : (vx vy : ℤ) (r : ℕ) → length_of vx vy ≤ r * r → (neg_ℤ (pos r) ≤ℤ vx) × (vx ≤ℤ pos r)
disc_along vx vy r h =
    let m : unsigned_abs vx ≤ r = le_from_squares (unsigned_abs vx) r (omega arith) in
    (omega (arith, ints, m), omega (arith, ints, m))

-- ---- one or other of two centers, grown by m and by n, is past a coordinate on each side
pub record InGrown (ax ay : ℤ) (m : ℕ) (bx by : ℤ) (n : ℕ) (x y : ℤ) : Type 0 where
  pub west : ((ax -ℤ pos m) ≤ℤ x) ⊎ ((bx -ℤ pos n) ≤ℤ x)
  pub east : (x ≤ℤ (ax +ℤ pos m)) ⊎ (x ≤ℤ (bx +ℤ pos n))
  pub south : ((ay -ℤ pos m) ≤ℤ y) ⊎ ((by -ℤ pos n) ≤ℤ y)
  pub north : (y ≤ℤ (ay +ℤ pos m)) ⊎ (y ≤ℤ (by +ℤ pos n))

-- a capsule by the radii of its arcs raised by c
tapered_in_grown : (a b : ArcShape) (x : Point) (c : ℕ) → a.radius ≤ b.radius → InTapered Closed a b x c → InGrown a.x a.y (a.radius + c) b.x b.y (b.radius + c) x.x x.y
tapered_in_grown a b x c l h =
    elim h [
      | inl d ↦ in_second a.x a.y (a.radius + c) b.x b.y (b.radius + c) x.x x.y d
      | inr t ↦ elim t.1 [
        | inl d ↦ in_first a.x a.y (a.radius + c) b.x b.y (b.radius + c) x.x x.y d
        | inr band ↦
            in_band a.x a.y b.x b.y x.x x.y (a.radius + c) (flare a b) (b.radius + c) (both a.radius b.radius c l) t.0
            (record { after = band.after; before = band.before; under = band.under })
      ]
    ]
  where
    both : (r s c : ℕ) → r ≤ s → r + c + (s - r) ≡ s + c
    both r s c l = omega (arith, l)

    in_first : (ax ay : ℤ) (m : ℕ) (bx by : ℤ) (n : ℕ) (x y : ℤ) → length_of (x -ℤ ax) (y -ℤ ay) ≤ m * m → InGrown ax ay m bx by n x y
    in_first ax ay m bx by n x y d =
        let h = disc_along (x -ℤ ax) (y -ℤ ay) m d in
        let v = disc_along (y -ℤ ay) (x -ℤ ax) m (omega arith) in
        record { west = inl (omega (arith, ints, h)); east = inl (omega (arith, ints, h)); south = inl (omega (arith, ints, v)); north = inl (omega (arith, ints, v)) }

    in_second : (ax ay : ℤ) (m : ℕ) (bx by : ℤ) (n : ℕ) (x y : ℤ) → length_of (x -ℤ bx) (y -ℤ by) ≤ n * n → InGrown ax ay m bx by n x y
    in_second ax ay m bx by n x y d =
        let h = disc_along (x -ℤ bx) (y -ℤ by) n d in
        let v = disc_along (y -ℤ by) (x -ℤ bx) n (omega arith) in
        record { west = inr (omega (arith, ints, h)); east = inr (omega (arith, ints, h)); south = inr (omega (arith, ints, v)); north = inr (omega (arith, ints, v)) }

    up : (a b x : ℤ) (r p n : ℕ) → r + p ≡ n → ((x -ℤ a) ≤ℤ pos r) ⊎ ((x -ℤ a) ≤ℤ (b -ℤ a +ℤ pos (r + p))) → (x ≤ℤ (a +ℤ pos r)) ⊎ (x ≤ℤ (b +ℤ pos n))
    up a b x r p n e h = elim h [ inl i ↦ inl (omega (arith, ints, i)) | inr i ↦ inr (omega (arith, ints, i, e)) ]

    down : (a b x : ℤ) (r p n : ℕ) → r + p ≡ n → (neg_ℤ (pos r) ≤ℤ (x -ℤ a)) ⊎ ((b -ℤ a -ℤ pos (r + p)) ≤ℤ (x -ℤ a)) → ((a -ℤ pos r) ≤ℤ x) ⊎ ((b -ℤ pos n) ≤ℤ x)
    down a b x r p n e h = elim h [ inl i ↦ inl (omega (arith, ints, i)) | inr i ↦ inr (omega (arith, ints, i, e)) ]

    in_band : (ax ay bx by x y : ℤ) (r p n : ℕ) → r + p ≡ n → p * p < length_of (bx -ℤ ax) (by -ℤ ay) →
        Band (along_of (bx -ℤ ax) (by -ℤ ay) (x -ℤ ax) (y -ℤ ay)) (unsigned_abs (across_of (bx -ℤ ax) (by -ℤ ay) (x -ℤ ax) (y -ℤ ay))) (length_of (bx -ℤ ax) (by -ℤ ay)) r p →
        InGrown ax ay r bx by n x y
    in_band ax ay bx by x y r p n e s h = record {
      west = down ax bx x r p n e (band_west (bx -ℤ ax) (by -ℤ ay) (x -ℤ ax) (y -ℤ ay) r p s h);
      east = up ax bx x r p n e (band_east (bx -ℤ ax) (by -ℤ ay) (x -ℤ ax) (y -ℤ ay) r p s h);
      south = down ay by y r p n e (band_south (bx -ℤ ax) (by -ℤ ay) (x -ℤ ax) (y -ℤ ay) r p s h);
      north = up ay by y r p n e (band_north (bx -ℤ ax) (by -ℤ ay) (x -ℤ ax) (y -ℤ ay) r p s h);
    }

turned_round : (ax ay : ℤ) (m : ℕ) (bx by : ℤ) (n : ℕ) (x y : ℤ) → InGrown bx by n ax ay m x y → InGrown ax ay m bx by n x y
turned_round ax ay m bx by n x y g = record { west = other g.west; east = other g.east; south = other g.south; north = other g.north }
  where
    other : {P Q : Type 0} → P ⊎ Q → Q ⊎ P
    other h = elim h [ inl p ↦ inr p | inr q ↦ inl q ]

either : {P Q G : Type 0} (b : Bool) → (b ≡ true → P → G) → (b ≡ false → Q → G) → MatchBool b P Q → G
either true f g h = f refl h
either false f g h = g refl h

in_order : (m n : ℕ) → nat_le m n ≡ true → m ≤ n
in_order m n h = grind arith

out_of_order : (m n : ℕ) → nat_le m n ≡ false → n ≤ m
out_of_order m n h = grind arith

pub capsule_in_grown : (a b : ArcShape) (x : Point) (c : ℕ) → InCapsule Closed a b x c → InGrown a.x a.y (a.radius + c) b.x b.y (b.radius + c) x.x x.y
capsule_in_grown a b x c h =
    either (nat_le a.radius b.radius) (λ t. tapered_in_grown a b x c (in_order a.radius b.radius t))
    (λ f k. turned_round a.x a.y (a.radius + c) b.x b.y (b.radius + c) x.x x.y (tapered_in_grown b a x c (out_of_order a.radius b.radius f) k)) h
