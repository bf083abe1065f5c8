-- Which host a request has to name, and of which site it may come.
use Rattle.std.specs.Prelude.{ℕ, Bool, true, false, ◌&&◌, ◌||◌, ◌==◌, List, [], ◌∷◌, ◌++◌, length, take, drop, codes, bytes_eq, Option, Some, None, is_some, if◌then◌else◌}
use Rattle.plant_base.specs.{digits_of}
use Rattle.plant_http_requests.specs.Fields.{Fields, count_named, value_named}
use Rattle.plant_http_requests.specs.declared.profile.Profile.{Profile}
use Rattle.plant_http_requests.specs.declared.profile.Profile.TheVariants as profile

-- ---- the host that a request names

-- nothing, or a colon and 1 to 5 digits
abbrev pub is_port : List ℕ → Bool
is_port [] = true
is_port (b ∷ digits) = (b == 58) && is_some (digits_of 5 digits)

-- the host has this name, with a port or without
abbrev pub is_host_of : List ℕ → List ℕ → Bool
is_host_of host name = bytes_eq (take (length name) host) name && is_port (drop (length name) host)

-- it has one of these names
abbrev pub is_further_host : List (List ℕ) → List ℕ → Bool
is_further_host [] host = false
is_further_host (name ∷ hosts) host = is_host_of host name || is_further_host hosts host

-- it has the name of this machine or one of these
abbrev pub is_served_host : List (List ℕ) → List ℕ → Bool
is_served_host hosts host = is_host_of host (codes "127.0.0.1") || is_host_of host (codes "localhost") || is_further_host hosts host

-- ---- the site of which it comes

-- the origin is this scheme and this host, port and all
abbrev pub is_origin_of : List ℕ → List ℕ → List ℕ → Bool
is_origin_of scheme host origin = bytes_eq origin (scheme ++ host)

-- the origin is that of the page that this host shows: over http, and at a further name over https too
abbrev pub is_own_origin : List (List ℕ) → List ℕ → List ℕ → Bool
is_own_origin hosts host origin =
    is_origin_of (codes "http://") host origin || (is_further_host hosts host && is_origin_of (codes "https://") host origin)

abbrev pub is_own_if_named : List (List ℕ) → List ℕ → Option (List ℕ) → Bool
is_own_if_named hosts host None = false
is_own_if_named hosts host (Some origin) = is_own_origin hosts host origin

-- no origin is named, or exactly one, which is that of the page
unfoldable pub has_own_origin : List (List ℕ) → List ℕ → Fields → Bool
has_own_origin hosts host fs =
    if count_named (codes "origin") fs == 0 then true
    else if count_named (codes "origin") fs == 1 then is_own_if_named hosts host (value_named (codes "origin") fs)
    else false

abbrev pub is_of_site : List (List ℕ) → Option (List ℕ) → Fields → Bool
is_of_site hosts None fs = false
is_of_site hosts (Some host) fs = is_served_host hosts host && has_own_origin hosts host fs

-- a host is named that is served, and no other site
unfoldable pub is_of_own_site : List (List ℕ) → Fields → Bool
is_of_own_site hosts fs = is_of_site hosts (value_named (codes "host") fs) fs

-- whether a request with these fields may be answered
abbrev pub is_permitted : Profile → Fields → Bool
is_permitted profile.Open fs = true
is_permitted (profile.Page hosts) fs = is_of_own_site hosts.now fs
