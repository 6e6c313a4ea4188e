-- What a book keeps is a proposition.
use Rattle.std.proofs.Common.{◌≡◌, ℕ, suc, ◌+◌, List, [], ◌∷◌, map, refl}
use mathlib.Core.Logic.{∥∥₁_elim}
use native.Mathlib.Bridge.{le_prop}
use base.Stored.{Coded-set, coded_ℕ, coded×, coded_list, coded_via}
use Rattle.std.specs.List.{AllByRecursion-prop}
use Rattle.market.specs.declared.words.Side.{Side}
use Rattle.market.specs.declared.words.Side.TheVariants.{Buy, Sell}
use Rattle.market.specs.declared.words.Order.{Order}
use Rattle.replay.specs.RollHolds.{Numbered}
use Rattle.orderbook.specs.Sorted.{Key, key_of, book, Sums, Sound, Tied}
use Rattle.orderbook.specs.Tables.{Kept}

numbered_prop : (k : ℕ) (os : List Order) → IsProp (Numbered k os)
numbered_prop k [] p q = refl
numbered_prop k (o ∷ os) p q = λ i. (Coded-set coded_ℕ o.number k p.0 q.0 i, numbered_prop (suc k) os p.1 q.1 i)

key_same : (x y : Key) → ◌≡◌ {A = ℕ × ℕ} (x.price, x.number) (y.price, y.number) → x ≡ y
key_same x y e = λ i. record { price = (e i).0; number = (e i).1 }

keys_set : (xs ys : List Key) → IsProp (xs ≡ ys)
keys_set = Coded-set (coded_list (coded_via (coded× coded_ℕ coded_ℕ) (λ (x : Key). (x.price, x.number)) key_same))

sums_prop : (o : Order) → IsProp (Sums o)
sums_prop o p q = λ i. record { whole = Coded-set coded_ℕ (o.filled + o.cancelled + o.«open») o.accepted p.whole q.whole i; most = le_prop p.most q.most i }

sound_prop : (os : List Order) → IsProp (Sound os)
sound_prop os p q = λ i. record { numbered = numbered_prop 1 os p.numbered q.numbered i; few = le_prop p.few q.few i; sums = AllByRecursion-prop Sums sums_prop os p.sums q.sums i }

tied_prop : (c : Side) (os : List Order) (ks : List Key) → IsProp (Tied c os ks)
tied_prop c os ks p q = λ i. record { sound = sound_prop os p.sound q.sound i; shows = keys_set ks (map key_of (book c os)) p.shows q.shows i }

kept_prop : (os : List Order) (b o : List Key) → IsProp (Kept os b o)
kept_prop os b o p q = λ i. record { bid = tied_prop Buy os b p.bid q.bid i; offer = tied_prop Sell os o p.offer q.offer i }

pub kept : {os : List Order} {b o : List Key} → ∥ Kept os b o ∥₁ → Kept os b o
kept {os} {b} {o} x = ∥∥₁_elim x (kept_prop os b o) (λ r. r)

pub sound : {os : List Order} {b o : List Key} → ∥ Kept os b o ∥₁ → Sound os
sound x = (kept x).bid.sound

pub tied : {c : Side} {os : List Order} {ks : List Key} → ∥ Tied c os ks ∥₁ → Tied c os ks
tied {c} {os} {ks} x = ∥∥₁_elim x (tied_prop c os ks) (λ r. r)
