mod NewPage
